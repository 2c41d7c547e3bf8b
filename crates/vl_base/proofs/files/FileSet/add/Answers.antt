use Rattle.std.proofs.Common.{◌≡◌, ◌∙◌, false, ap, sym, rules}
use Rattle.std.specs.Prelude.{length, is_some}
use Rattle.vl_base.specs.Files.{number_of}
use Rattle.vl_base.proofs.FileSets.{added}
use Rattle.vl_base.proofs.files.FileSet.add.Goals as goal
use Rattle.vl_base.proofs.files.FileSet.add.Goals.{in-Ok, in-Err}

pub invariant_of-self : goal.invariant_of-self
invariant_of-self c =
    let absent : is_some (number_of c.self.inside.files.items c.args.name) ≡ false
    = ap (λ files. is_some (number_of files c.args.name)) c.self.view_is ∙ ap is_some (sym c.number.ensures.number) ∙ sym c.is_some.ensures ∙ c.if-is_some.false in
    let not_full : length c.self.inside.files.items ≡ 16 → ⊥ = search rules in
    let small = rw c.as_slice.ensures at c.are_bytes.ensures in
    elim c.match-push.branch [
      | in-Ok w ↦ rw (c.push.ensures.items, w.in-Ok.is)
          (added c.self.inside.files.items (record { name = c.args.name; bytes = c.args.bytes }) c.self.invariant not_full absent c.requires small)
      | in-Err w ↦ rw (c.push.ensures.items, w.in-Err.is) c.self.invariant
    ]
