-- Laws that several crates use.
use Rattle.std.proofs.Common.{List, [], ap, append_assoc, refl, sym, true, ℕ, ◌&&◌, ◌++◌, ◌+◌, ◌-◌, ◌∙◌, ◌∷◌, ◌≡◌}
use Rattle.std.proofs.lemmas.Bool.{and_from, le-leb}
use Rattle.std.specs.Prelude.{is_some, nat_le}
use Rattle.fab_lock.specs.declared.entry.Kind.TheVariants.{Line}
use Rattle.fab_model.specs.Deeds.{deed_in}
use Rattle.fab_model.specs.Fabrics.{plus, within}
use Rattle.fab_model.specs.Histories.{Away, Inside, May, Place}
use Rattle.fab_model.specs.Tokens.{out_at, outs, put_at, puts}
use Rattle.fab_model.specs.declared.note.Note.{Note}
use Rattle.ten_core.specs.vl_design.specs.Costs.{Fits}
use Rattle.ten_core.specs.vl_design.specs.declared.capacity.Cost.{Cost}
use Rattle.fab_lock.specs.declared.entry.Kind.TheVariants as kind

pub has_deed : (g : ℕ) (p : Place) (n : Note) → May g Line p n → is_some (deed_in n) ≡ true
has_deed g Away n m = m.0
has_deed g (Inside a b c d) n m = absurd m

pub outs-append : (xs ys : List Note) → outs (xs ++ ys) ≡ outs xs ++ outs ys
outs-append [] ys = refl
outs-append (x ∷ xs) ys = ap (λ l. out_at x.entry.kind x ++ l) (outs-append xs ys) ∙ sym (append_assoc (out_at x.entry.kind x) (outs xs) (outs ys))

pub puts-append : (xs ys : List Note) → puts (xs ++ ys) ≡ puts xs ++ puts ys
puts-append [] ys = refl
puts-append (x ∷ xs) ys = ap (λ l. put_at x.entry.kind x ++ l) (puts-append xs ys) ∙ sym (append_assoc (put_at x.entry.kind x) (puts xs) (puts ys))

pub fits-within : (u m c : Cost) → Fits u m c → within (plus u m) c ≡ true
fits-within u m c h =
    let regs = h.regs in
    let cells = h.cells in
    let mem = h.mem in
    and_from (nat_le (u.regs + m.regs) c.regs) (nat_le (u.cells + m.cells) c.cells && nat_le (u.mem + m.mem) c.mem) (le-leb (u.regs + m.regs) c.regs regs)
    (and_from (nat_le (u.cells + m.cells) c.cells) (nat_le (u.mem + m.mem) c.mem) (le-leb (u.cells + m.cells) c.cells cells) (le-leb (u.mem + m.mem) c.mem mem))
