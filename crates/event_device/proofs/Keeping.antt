-- No call of a port changes of which device it is.
use Rattle.std.proofs.Common.{◌≡◌, ap, ◌∙◌}
use Rattle.credit_pool.specs.Accounts.{Stays}
use Rattle.event_ports.specs.Ports.{account_of, own_site}
use Rattle.event_ports.specs.declared.port.Port.{Port}
use Rattle.event_device.specs.Device.{site_of}
use Rattle.event_device.proofs.Sites.{site_at}

-- a port keeps its site
pub same_site : (p q : Port) → own_site q ≡ own_site p → Stays (account_of p) (account_of q) → site_of q ≡ site_of p
same_site p q site stays = ap (λ w. site_at w (account_of q).parts) site ∙ ap (site_at (own_site p)) stays.parts
