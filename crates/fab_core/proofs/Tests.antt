-- What tests of points come to.
use Rattle.std.proofs.Common.{◌≡◌, ◌↔◌, ℕ, ◌+◌, ◌≤◌, IsTrue, arith, Bool, true, false, List, [], ◌∷◌, Option, Some, None, Result, Ok, Err, refl, sym, ap, ◌∙◌}
use Rattle.std.specs.Prelude.{◌&&◌, ◌||◌, not, is_some, nat_le, if◌then◌else◌, OnOk}
use Rattle.std.proofs.lemmas.Bool.Decides.{nat_tests}
use Rattle.vl_design.specs.declared.capacity.Cost.{Cost}
use Rattle.vl_design.specs.Costs.{Fits}
use Rattle.vl_design.specs.declared.design.End.{End}
use Rattle.vl_design.specs.declared.design.End.TheVariants as end
use Rattle.ten_core.specs.sub_nodes.specs.Cycles.{is_trap, rises}
use Rattle.ten_core.specs.sub_nodes.specs.Nodes.{Node, Run, Trap, Apply}
use Rattle.ten_shell.specs.declared.shell.Why.{Why}
use Rattle.ten_shell.specs.Leaving.{why_of}
use Rattle.ten_shell.specs.Shells.{is_left}
use Rattle.fab_model.specs.Fabrics.{plus, within}
pub use Rattle.vl_design.specs.vl_base.proofs.Booleans.{never_both as clash, or_left_false as or-left-false, or_right_false as or-right-false, or_then as or-then, or_else as or-else}
pub use Rattle.ten_core.specs.sub_nodes.proofs.Shared.{trap-low}
use Rattle.vl_design.specs.vl_base.proofs.Numbers.{le_true as le-true, le_from as le-back}
use Rattle.fab_model.proofs.Shared.{fits-within}

pub never-both : (x : Bool) → (x ≡ true → x ≡ false) → x ≡ false
never-both true h = h refl
never-both false h = refl

pub true-where : (b x : Bool) → (b ≡ true → x ≡ true) → (if b then x else true) ≡ true
true-where true x h = h refl
true-where false x h = refl

-- ---- what is left

pub left-same : (b : Bool) (x y : List (List ℕ)) → (b ≡ true → x ≡ y) → (b && is_left x) ≡ (b && is_left y)
left-same true x y h = ap is_left (h refl)
left-same false x y h = refl

pub rest-same : (f u : Bool) (x y : List (List ℕ)) → ((not f && u) ≡ true → x ≡ y) → (f || (u && not (is_left x))) ≡ (f || (u && not (is_left y)))
rest-same true u x y h = refl
rest-same false true x y h = ap (λ z. not (is_left z)) (h refl)
rest-same false false x y h = refl

pub none-left : (b : Bool) (x : List (List ℕ)) → (b && is_left x) ≡ false → b ≡ true → x ≡ []
none-left true [] e h = refl
none-left true (x ∷ xs) e h = let z : ⊥ = cc in absurd z
none-left false x e h = let z : ⊥ = cc in absurd z

-- ---- tests joined

-- ---- what fits

and-all : (x y z : Bool) → x ≡ true → y ≡ true → z ≡ true → (x && (y && z)) ≡ true
and-all x y z e f g = rw e (rw f g)

and-1 : (x y z : Bool) → (x && (y && z)) ≡ true → x ≡ true
and-1 true y z e = refl
and-1 false y z e = e

and-2 : (x y z : Bool) → (x && (y && z)) ≡ true → y ≡ true
and-2 true true z e = refl
and-2 true false z e = e
and-2 false y z e = let w : ⊥ = cc in absurd w

and-3 : (x y z : Bool) → (x && (y && z)) ≡ true → z ≡ true
and-3 true true z e = e
and-3 true false z e = let w : ⊥ = cc in absurd w
and-3 false y z e = let w : ⊥ = cc in absurd w

within-fits : (u m c : Cost) → within (plus u m) c ≡ true → Fits u m c
within-fits u m c h =
    let x = nat_le (u.regs + m.regs) c.regs in
    let y = nat_le (u.cells + m.cells) c.cells in
    let z = nat_le (u.mem + m.mem) c.mem in
    record {
      regs = le-back (u.regs + m.regs) c.regs (and-1 x y z h);
      cells = le-back (u.cells + m.cells) c.cells (and-2 x y z h);
      mem = le-back (u.mem + m.mem) c.mem (and-3 x y z h);
    }

-- a test of what fits answers as the definition of it
pub within-is : (b : Bool) (u m c : Cost) → (IsTrue b ↔ Fits u m c) → b ≡ within (plus u m) c
within-is true u m c e = sym (fits-within u m c (e.0 refl))
within-is false u m c e = sym (never-both (within (plus u m) c) (λ w. w ∙ sym (e.1 (within-fits u m c w))))

-- ---- results

pub on-ok-4 : {T E : Type 0} (A B C D Z : Type 0) → (A → B → C → D → Z) → (r : Result T E) → OnOk r A → OnOk r B → OnOk r C → OnOk r D → OnOk r Z
on-ok-4 A B C D Z f (Ok t) a b c d = f a b c d
on-ok-4 A B C D Z f (Err e) a b c d = tt

-- ---- why it leaves

pub due-none : (r : Bool) (y : Option Why) → is_some (if r then y else None) ≡ false → r ≡ true → is_some y ≡ false
due-none true y e h = e
due-none false y e h = let z : ⊥ = cc in absurd z

pub why-none : (o : Option End) (to : Option ℕ) (moved : Bool) → is_some (why_of o to moved) ≡ false → o ≡ None
why-none (Some e) to moved h = let z : ⊥ = cc in absurd z
why-none None to moved h = refl

-- what holds where there is no reason to end
pub record Goes (st f e : Bool) : Type 0 where
  pub lives : st ≡ false
  pub alive : f ≡ false
  pub on : e ≡ false

pub end-none : (st f b s : Bool) → (if st then Some end.Stopped else if f then Some end.Finished else if b then Some end.Budget else if s then Some end.Stopped else None) ≡ None → Goes st f (b || s)
end-none true f b s h = let z : ⊥ = cc in absurd z
end-none false true b s h = let z : ⊥ = cc in absurd z
end-none false false true s h = let z : ⊥ = cc in absurd z
end-none false false false true h = let z : ⊥ = cc in absurd z
end-none false false false false h = record { lives = refl; alive = refl; on = refl }

-- a run goes on where nothing is left to be made, and there is no reason to end where it rests
pub going : (st f u l e : Bool) → ((not f && u) && l) ≡ false → ((f || (u && not l)) ≡ true → Goes st f e) → (not f && (not u || not e)) ≡ true
going st true u l e n h = let z : ⊥ = clash true refl ((h refl).alive) in absurd z
going st false false l e n h = refl
going st false true true e n h = let z : ⊥ = cc in absurd z
going st false true false e n h = ap not ((h refl).on)

-- ---- whether it may do a cycle

pub step-waits : (w d x : Bool) → (not w && (not d && x)) ≡ true → w ≡ false
step-waits true d x e = let z : ⊥ = cc in absurd z
step-waits false d x e = refl

pub step-due : (w d x : Bool) → (not w && (not d && x)) ≡ true → d ≡ false
step-due true d x e = let z : ⊥ = cc in absurd z
step-due false true x e = let z : ⊥ = cc in absurd z
step-due false false x e = refl

pub no-step-waits : (w d x : Bool) → w ≡ true → false ≡ (not w && (not d && x))
no-step-waits true d x e = refl
no-step-waits false d x e = let z : ⊥ = cc in absurd z

pub no-step-due : (w d x : Bool) → w ≡ false → d ≡ true → false ≡ (not w && (not d && x))
no-step-due true d x e h = refl
no-step-due false true x e h = refl
no-step-due false false x e h = let z : ⊥ = cc in absurd z

pub steps-free : (w d h r : Bool) → w ≡ false → d ≡ false → h ≡ false → true ≡ (not w && (not d && not (h && r)))
steps-free w d h r e f g = rw e (rw f (rw g refl))

pub steps-held : (w d h r y : Bool) → w ≡ false → d ≡ false → h ≡ true → y ≡ not r → y ≡ (not w && (not d && not (h && r)))
steps-held w d h r y e f g k = rw e (rw f (rw g k))

-- ---- nodes

-- a node at which it rests and waits is a call's behind `$finish`
pub over-there : (w f u l : Bool) → (w ≡ true → u ≡ false) → (w || ((not f && u) && l)) ≡ true → (f || (u && not l)) ≡ true → f ≡ true
over-there w true u l h e k = refl
over-there true false u l h e k = let g = h refl in let z : ⊥ = cc in absurd z
over-there false false true true h e k = let z : ⊥ = cc in absurd z
over-there false false true false h e k = let z : ⊥ = cc in absurd z
over-there false false false l h e k = let z : ⊥ = cc in absurd z
