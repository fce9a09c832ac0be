-- What a parse of the bytes gives.
use Rattle.std.proofs.Common.{◌≡◌, ℕ, Bool, true, false, cond, List, Some, None, Ok, Err, refl, ap}
use Rattle.std.specs.Str.{IsUtf8, is_utf8}
use Rattle.std.proofs.lemmas.Str.{is_utf8-from_IsUtf8, IsUtf8-from_is_utf8}
use Rattle.toml.specs.Data.{Members}
use Rattle.toml.specs.Parse.{parse_document}
use Rattle.play_documents.specs.Document.{parsed, table_or_fault}
use Rattle.play_documents.specs.declared.fault.DocFault.TheVariants.{NotToml}

pub parsed-Ok : (bs : List ℕ) (t : Members) → IsUtf8 bs → parse_document bs ≡ Some t → parsed bs ≡ Ok t
unfolding parsed
parsed-Ok bs t utf8 e = rw (is_utf8-from_IsUtf8 bs utf8, e) refl

refused-by : (b : Bool) (bs : List ℕ) → is_utf8 bs ≡ b → (IsUtf8 bs → parse_document bs ≡ None) → cond b (table_or_fault (parse_document bs)) (Err NotToml) ≡ Err NotToml
refused-by false bs e none = refl
refused-by true bs e none = ap table_or_fault (none (IsUtf8-from_is_utf8 bs e))

pub parsed-Err : (bs : List ℕ) → (IsUtf8 bs → parse_document bs ≡ None) → parsed bs ≡ Err NotToml
unfolding parsed
parsed-Err bs none = refused-by (is_utf8 bs) bs refl none
