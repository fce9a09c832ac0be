use Rattle.std.proofs.Common.{◌≡◌, ◌≢◌, ◌∙◌, ap, arith, length, slice_get, slice_set, subst, sym, vec_len, ⊎_elim}
use Rattle.std.proofs.lemmas.Bool.{cases_eq, eq-eqb, ne_eqb}
use Rattle.parked_queue.specs.Lists.{Lists, list_at, numbered_from, with_row}
use Rattle.parked_queue.specs.Store.{IsStore, lists_in}
use Rattle.parked_queue.proofs.Changes.{none_here, some_here}
use Rattle.parked_queue.proofs.Rows.{of_store}
use Rattle.parked_queue.proofs.waiting.WaitingLists.push_row.Goals as goal

pub append_row-requires-clause-store : goal.append_row-requires-clause-store
append_row-requires-clause-store c =
    record {
      chains = c.self.inside.chains.items;
      room = c.self.inside.room;
      list = c.args.list;
      is = of_store c.self.inside.nodes.items (vec_len c.self.inside.nodes) c.self.inside.free c.self.inside.chains.items c.self.inside.room c.args.self.now c.self.view_is c.self.invariant c.args.list c.requires.list c.index.result.now c.index.ensures (length c.args.replies.now) c.requires.room;
    }

pub invariant_of-self : goal.invariant_of-self
invariant_of-self c =
    let come = c.append_row.ensures.come c.self.inside.chains.items c.self.inside.room c.args.list (of_store c.self.inside.nodes.items (vec_len c.self.inside.nodes) c.self.inside.free c.self.inside.chains.items c.self.inside.room c.args.self.now c.self.view_is c.self.invariant c.args.list c.requires.list c.index.result.now c.index.ensures (length c.args.replies.now) c.requires.room) in
    subst (λ n. IsStore (slice_get c.append_row.new.nodes.items) n c.append_row.new.free (slice_set c.self.inside.chains.items c.args.list c.append_row.new.chain) c.self.inside.room) (sym c.append_row.ensures.count) come.store

pub returns-clause-first : goal.returns-clause-first
returns-clause-first c =
    ⊎_elim
    (λ (e : c.index.result.now.first ≡ c.index.result.now.spare).
    let none = none_here c.self.inside.nodes.items (vec_len c.self.inside.nodes) c.self.inside.free c.self.inside.chains.items c.self.inside.room c.args.self.now c.self.view_is c.self.invariant c.args.list c.requires.list c.index.result.now c.index.ensures e in
    eq-eqb c.index.result.now.first c.index.result.now.spare e
    ∙ sym (eq-eqb (length (list_at c.args.self.now c.args.list)) 0 (ap length none)))
    (λ (ne : c.index.result.now.first ≢ c.index.result.now.spare).
    let some = some_here c.self.inside.nodes.items (vec_len c.self.inside.nodes) c.self.inside.free c.self.inside.chains.items c.self.inside.room c.args.self.now c.self.view_is c.self.invariant c.args.list c.requires.list c.index.result.now c.index.ensures ne in
    ne_eqb c.index.result.now.first c.index.result.now.spare ne
    ∙ sym (ne_eqb (length (list_at c.args.self.now c.args.list)) 0 (omega arith)))
    (cases_eq c.index.result.now.first c.index.result.now.spare)

pub returns-clause-value : goal.returns-clause-value
returns-clause-value c =
    let come = c.append_row.ensures.come c.self.inside.chains.items c.self.inside.room c.args.list (of_store c.self.inside.nodes.items (vec_len c.self.inside.nodes) c.self.inside.free c.self.inside.chains.items c.self.inside.room c.args.self.now c.self.view_is c.self.invariant c.args.list c.requires.list c.index.result.now c.index.ensures (length c.args.replies.now) c.requires.room) in
    ap (λ n. lists_in (slice_get c.append_row.new.nodes.items) n (slice_set c.self.inside.chains.items c.args.list c.append_row.new.chain) c.self.inside.room) c.append_row.ensures.count
    ∙ (come.view ∙ ap (λ (v : Lists). with_row v c.args.list (numbered_from c.args.number c.args.replies.now)) c.self.view_is)
