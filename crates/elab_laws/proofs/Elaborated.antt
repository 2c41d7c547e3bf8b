-- The elaboration of a source is a flat design of one whose names have no fault, and fit to be judged.
use Rattle.std.proofs.Common.{◌≡◌, refl, ℕ, false, List, [], ◌∷◌, ◌++◌, Option, Some, None, Result, Ok}
use Rattle.std.specs.Prelude.{slice_get, All}
use Rattle.std.proofs.lemmas.List.Elements.{All-head, All-tail, All-weaker}
use Rattle.vl_sound.specs.vl_tree.specs.declared.source_tree.Source.{Source}
use Rattle.vl_sound.specs.vl_scope.specs.declared.fault.Fault.{Fault}
use Rattle.vl_sound.specs.vl_scope.specs.DeclarationFaults.{IsDeclarationFault}
use Rattle.vl_sound.specs.vl_uses.specs.UseFaults.{IsUseFault}
use Rattle.vl_sound.specs.vl_names.specs.NameFaults.{of_declaration, of_use}
use Rattle.ten_plan.specs.vl_design.specs.declared.design.SigKind.{SigKind}
use Rattle.ten_plan.specs.vl_design.specs.declared.design.SigKind.TheVariants as k
use Rattle.ten_plan.specs.vl_design.specs.declared.stop.Stop.{Stop}
use Rattle.ten_plan.specs.vl_design.specs.Placed as p
use Rattle.ten_plan.specs.vl_design.specs.Plainly.{flat}
use Rattle.ten_plan.specs.vl_design.specs.Syntax.{Row, Fun}
use Rattle.ten_plan.specs.vl_design.specs.Width.{names_of}
use Rattle.vl_accept.specs.vl_loops.specs.Unroll.{is_loop_kind, is_loop_row}
use Rattle.vl_accept.specs.vl_loops.specs.Fits.{AreNoLoops}
use Rattle.vl_accept.specs.Fit.{IsFit}
use Rattle.vl_sound.specs.vl_flat.specs.Outcome.{flattened}
use Rattle.vl_sound.proofs.WidthsOfAgree.{widths}
use Rattle.elab_laws.proofs.Built.{source-built}
use Rattle.vl_sound.specs.Inputs.{IsNoLoop, HasNoLoopInputs, NoLoopInputs}
use Rattle.vl_sound.proofs.Whole.{source-sound}
use Rattle.vl_sound.specs.Meeting.{IsElaboration, misnamed, named}

-- ---- inputs that are no loop variables, by a test

no-loop-kind : (kind : SigKind) → IsNoLoop kind → is_loop_kind kind ≡ false
no-loop-kind k.Loop h = absurd h
no-loop-kind kind h = refl

no-loop-row : (o : Option Row) → ((r : Row) → o ≡ Some r → IsNoLoop r.kind) → is_loop_row o ≡ false
no-loop-row None h = refl
no-loop-row (Some r) h = no-loop-kind r.kind (h r refl)

module _ (rows : List Row) where
  -- what stands at the number, if a signal does, is no loop variable
  abbrev IsNoLoopAt : ℕ → Type 0
  IsNoLoopAt j = (r : Row) → slice_get rows j ≡ Some r → IsNoLoop r.kind

  no-loops : (js : List ℕ) → All IsNoLoopAt js → AreNoLoops rows js
  no-loops [] h = tt
  no-loops (j ∷ js) h = (no-loop-row (slice_get rows j) (All-head IsNoLoopAt j js h), no-loops js (All-tail IsNoLoopAt j js h))

inputs-kept : (d : p.Design) → NoLoopInputs (flat d) → All (λ (f : Fun). AreNoLoops ((flat d).rows ++ f.locals) f.inputs) (flat d).funs
inputs-kept d h =
    All-weaker (HasNoLoopInputs (names_of (flat d))) (λ (f : Fun). AreNoLoops ((flat d).rows ++ f.locals) f.inputs)
    (λ f i. no-loops ((flat d).rows ++ f.locals) f.inputs i) (flat d).funs h

-- ---- what came of an elaboration

-- the flat design of a source whose names have no fault
pub record IsFlat (s : Source) (d : p.Design) : Type 0 where
  pub declared : (f : Fault) → IsDeclarationFault s f → ⊥
  pub used : (f : Fault) → IsUseFault s f → ⊥
  pub is : flattened s ≡ Ok d

pub elaborated : (s : Source) (d : p.Design) → IsElaboration s (Ok d) → IsFlat s d
elaborated s d h = from (Ok d) h refl
  where
    from : (r : Result p.Design Stop) → IsElaboration s r → r ≡ Ok d → IsFlat s d
    from r (misnamed h) is = let z : ⊥ = cc in absurd z
    from r (named none) is = record { declared = λ f h. none f (of_declaration f h); used = λ f h. none f (of_use f h); is = is }

pub fit : (s : Source) (d : p.Design) → IsElaboration s (Ok d) → IsFit d
fit s d h =
    let flat = elaborated s d h in
    let whole = source-sound s flat.declared flat.used d flat.is in
    let wide = widths s d flat.is in
    record { sound = whole.sound; inputs = inputs-kept d whole.inputs; signals = wide.signals; locals = wide.locals; processes = source-built s flat.declared flat.used d flat.is }
