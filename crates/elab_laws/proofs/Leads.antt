-- What comes first in a statement: a call that gives the answer which is read, and whose name is fit for files, or what reads no answer.
use Rattle.std.proofs.Common.{◌≡◌, Bool, ℕ, true, false, true≢false, if◌then◌else◌, List, refl, sym}
use Rattle.std.specs.Prelude.{⊤, ◌&&◌, not}
use Rattle.vl_sound.specs.vl_base.specs.declared.bits.UnOp.TheVariants.{LogNot}
use Rattle.vl_sound.specs.vl_base.specs.declared.place.Place.{Place}
use Rattle.ten_plan.specs.vl_design.specs.Calls.{task_of}
use Rattle.ten_plan.specs.vl_design.specs.Syntax as d
use Rattle.ten_plan.specs.vl_design.specs.Nodes.{has, target_has, arguments_have}
use Rattle.ten_plan.specs.vl_design.specs.Reads.{stm_timed}
use Rattle.ten_plan.specs.vl_design.specs.Placed as p
use Rattle.ten_plan.specs.vl_design.specs.Plainly as plain
use Rattle.ten_plan.specs.vl_design.proofs.Resting.{or_none}
use Rattle.vl_accept.specs.vl_sites.specs.Answers.{is_answer, gives_answer, asks_before}
use Rattle.elab_laws.proofs.Texts.{IsTimeless, HaveNoAnswer, task-none}
use Rattle.elab_laws.proofs.Quiet.{NoAnswer}
use Rattle.elab_laws.proofs.Nodes.{IsNamedTask, Named}

-- a call of a system function, which may be a cast or the time
pub system-so : (C : p.Exp → Type 0) (at : Place) (y u w : Bool) (first rest : p.Exp) → ((s : Bool) → C (p.Cast at s first)) → C (p.Time at) → C rest
    → C (if y then p.Cast at true first else if u then p.Cast at false first else if w then p.Time at else rest)
system-so C at true u w first rest h g i = h true
system-so C at false true w first rest h g i = h false
system-so C at false false true first rest h g i = g
system-so C at false false false first rest h g i = i

module _ (path : List ℕ) where
  -- ---- the time

  pub first-timeless : (e : p.Exp) (a : d.Stm) → IsTimeless (plain.exp e) → stm_timed a ≡ false → stm_timed (plain.called_first path e a) ≡ false
  first-timeless (p.Sys at name given) a h k = absurd (true≢false h)
  first-timeless (p.Un at LogNot (p.Sys q name given)) a h k = absurd (true≢false h)
  first-timeless e a h k = k

  -- ---- answers

  abbrev pub IsLead : p.Exp → Type 0
  IsLead (p.Sys at name given) = (gives_answer (task_of path name (plain.args given)) ≡ true) × HaveNoAnswer (plain.args given)
  IsLead v = NoAnswer v

  -- also behind one `!`
  abbrev pub IsTestLead : p.Exp → Type 0
  IsTestLead (p.Un at LogNot a) = IsLead a
  IsTestLead v = IsLead v

  pub none-lead : (v : p.Exp) → NoAnswer v → IsLead v
  none-lead (p.Sys at name given) h = absurd (true≢false h)
  none-lead v h = h

  pub lead-test : (v : p.Exp) → IsLead v → IsTestLead v
  lead-test (p.Un at LogNot a) h = none-lead a h
  lead-test v h = h

  call-none : (b c : Bool) → b ≡ true → (not b && c) ≡ false
  call-none true c h = refl
  call-none false c h = absurd (true≢false (sym h))

  call-asks : (name : List ℕ) (given : p.Args) (a : d.Stm) → (gives_answer (task_of path name (plain.args given)) ≡ true) × HaveNoAnswer (plain.args given)
      → asks_before (d.Then (d.Sys (task_of path name (plain.args given))) a) ≡ false
  call-asks name given a h =
      let task = task_of path name (plain.args given) in
      or_none (arguments_have is_answer task) (not (gives_answer task) && asks_before a) (task-none path name (plain.args given) h.1) (call-none (gives_answer task) (asks_before a) h.0)

  pub first-asks : (v : p.Exp) (a : d.Stm) → IsTestLead v → (NoAnswer v → asks_before a ≡ false) → asks_before (plain.called_first path v a) ≡ false
  first-asks (p.Sys at name given) a h g = call-asks name given a h
  first-asks (p.Un at LogNot (p.Sys q name given)) a h g = call-asks name given a h
  first-asks v a h g = g h

  pub assign-asks : (at : Place) (target : p.Target) (v : p.Exp) → target_has is_answer (plain.target target) ≡ false → IsLead v → asks_before (plain.stm path (p.Set at target v)) ≡ false
  assign-asks at target v h g =
      first-asks v (d.Set (plain.target target) (plain.exp v)) (lead-test v g) (λ u. or_none (target_has is_answer (plain.target target)) (has is_answer (plain.exp v)) h u)

  -- ---- names

  abbrev pub IsNamedLead : p.Exp → Type 0
  IsNamedLead (p.Sys at name given) = IsNamedTask (task_of path name (plain.args given))
  IsNamedLead (p.Un at op a) = IsNamedLead a
  IsNamedLead v = ⊤

  -- what reads no answer is no call
  pub none-named : (v : p.Exp) → NoAnswer v → IsNamedLead v
  none-named (p.Sys at name given) h = absurd (true≢false h)
  none-named (p.Un at op a) h = none-named a h
  none-named v h = tt

  pub first-named : (v : p.Exp) (a : d.Stm) → IsNamedLead v → Named a → Named (plain.called_first path v a)
  first-named (p.Sys at name given) a h g = (h, g)
  first-named (p.Un at LogNot (p.Sys q name given)) a h g = (h, g)
  first-named v a h g = g

  pub assign-named : (at : Place) (target : p.Target) (v : p.Exp) → IsNamedLead v → Named (plain.stm path (p.Set at target v))
  assign-named at target v h = first-named v (d.Set (plain.target target) (plain.exp v)) h tt
