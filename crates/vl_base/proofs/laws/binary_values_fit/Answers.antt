use Rattle.std.proofs.Common.{◌≡◌, ◌<◌, ◌^◌, subst, sym, ℕ}
use Rattle.vl_base.proofs.Bounds.{binary-below}
use Rattle.vl_base.proofs.laws.binary_values_fit.Goals as goal

pub returns : goal.returns
returns c =
    binary-below c.args.op c.args.signed c.args.a.width c.args.a.value c.args.b.value c.args.a.fits
    (λ one. let e : c.args.a.width ≡ c.args.b.width = c.requires one in
    let P : ℕ → Type 0 = λ w. c.args.b.value < 2 ^ w in subst P (sym e) c.args.b.fits)
