-- Laws that several crates use.
use Rattle.std.proofs.Common.{List, ap, filter, length, ℕ, ◌&&◌, ◌++◌, ◌+◌, ◌==◌, ◌∙◌, ◌≡◌}
use Rattle.std.proofs.lemmas.List.{length-append}
use Rattle.std.proofs.lemmas.List.Elements.{filter-append}
use Rattle.host_form.specs.Orders.{Put, puts_at}

pub puts_append : (g j : ℕ) (ps qs : List Put) → puts_at g j (ps ++ qs) ≡ puts_at g j ps + puts_at g j qs
puts_append g j ps qs =
    ap length (filter-append (λ (p : Put). (p.fabric == g) && (p.tick == j)) ps qs)
    ∙ length-append (filter (λ (p : Put). (p.fabric == g) && (p.tick == j)) ps) (filter (λ (p : Put). (p.fabric == g) && (p.tick == j)) qs)
