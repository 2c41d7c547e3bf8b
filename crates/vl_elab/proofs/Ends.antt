-- From what is made to the design.
use Rattle.std.proofs.Common.{◌≡◌, ap, sym, ◌∙◌, subst, ℕ, List}
use Rattle.std.specs.Prelude.{Result, Ok, Err, IfOk, None, Some, All}
use Rattle.std.specs.Result.{IsErr, IsErrAnd}
use Rattle.elab_plain.specs.vl_tree.specs.declared.source_tree.Source.{Source}
use Rattle.vl_design.specs.vl_base.specs.declared.place.Place.{Place}
use Rattle.vl_names.specs.vl_scope.specs.Faults.{IsFirst, at}
use Rattle.vl_names.specs.declared.names.NamesFault.{NamesFault}
use Rattle.vl_names.specs.declared.names.NamesFault.TheVariants as n
use Rattle.vl_names.specs.NameFaults.{IsNameFault, of_declaration, of_use}
use Rattle.vl_design.specs.declared.design.Design.{Design}
use Rattle.vl_design.specs.declared.design.Signal.{Signal}
use Rattle.vl_design.specs.declared.stop.Stop.{Stop}
use Rattle.vl_design.specs.Trees.{flat_of}
use Rattle.vl_design.specs.Sound.{IsSound}
use Rattle.vl_design.specs.declared.stop.Stop.TheVariants.{Construct, Limit, Memory}
use Rattle.elab_plain.specs.vl_flat.specs.Items as x
use Rattle.vl_design.specs.Placed as p
use Rattle.elab_plain.specs.vl_flat.specs.Flat.{parts_from, design_of}
use Rattle.elab_plain.specs.vl_flat.specs.Outcome as o
use Rattle.elab_plain.specs.vl_flat.specs.Outcome.{◌>>=◌}
use Rattle.elab_plain.specs.vl_flat.specs.Declarations.{modules}
use Rattle.vl_sound.specs.Apart.{AreApart}
use Rattle.vl_sound.proofs.DeclaredOfLaws.{all-apart}
use Rattle.vl_sound.specs.Inputs.{NoLoopInputs}
use Rattle.vl_sound.proofs.Whole.{source-sound}
use Rattle.vl_elab.specs.Growing.{Makes}
use Rattle.vl_sound.specs.Meeting.{Meets, Elaborates, IsElaboration, misnamed, named, stop_of}

abbrev pub design : List ℕ → List Signal → List p.Func → List p.Process → p.Design
design top signals funcs processes = record { top = top; signals = signals; funcs = funcs; processes = processes }

pub same-design : (t u : List ℕ) (a b : List Signal) (f g : List p.Func) (p q : List p.Process) → t ≡ u → a ≡ b → f ≡ g → p ≡ q → design t a f p ≡ design u b g q
same-design t u a b f g p q h1 h2 h3 h4 =
    ap (λ z. design z a f p) h1 ∙ (ap (λ z. design u z f p) h2 ∙ (ap (λ z. design u b z p) h3 ∙ ap (design u b g) h4))

pub ends : (s : Stop) (ms : List x.Module) (m : x.Module) → Makes (parts_from ms m) (Err s) → Meets (Err s) (o.flattened_from ms m)
ends (Construct at n) ms m h = ap (λ z. z >>= (λ t. Ok (design_of m (parts_from ms m)))) h
ends (Limit at n) ms m h = ap (λ z. z >>= (λ t. Ok (design_of m (parts_from ms m)))) h
ends Memory ms m h = tt

pub met : {P : Stop → Type 0} (r : Result Design Stop) (s : Stop) (of : Result p.Design Stop) → IsErr r × IsErrAnd r P → ((e : Stop) → P e → e ≡ s) → Meets (Err s) of → Meets r of
met (Ok d) s of h k m = absurd h.1
met (Err e) s of h k m = subst (λ z. Meets (Err z) of) (sym (k e h.1)) m

-- where names have no fault, no parameter and no function has a signal's name
pub apart-modules : (s : Source) → IsFirst (IsNameFault s) None → All AreApart (modules s)
apart-modules s none = all-apart s (λ f z. none f (of_declaration f z))

pub elaborated : (s : Source) (r : Result Design Stop) → IsFirst (IsNameFault s) None → Meets r (o.flattened s) → Elaborates s r
elaborated s (Ok d) none h = subst (IsElaboration s) h (named none)
elaborated s (Err (Construct at n)) none h = subst (IsElaboration s) h (named none)
elaborated s (Err (Limit at n)) none h = subst (IsElaboration s) h (named none)
elaborated s (Err Memory) none h = tt

pub stopped : {A : Type 0} (s : Source) (r : Result A NamesFault) (f : NamesFault) (stop : Stop) → r ≡ Err f
    → ((q : Place) (k : ℕ) → r ≡ Err (n.Construct q k) → IsFirst (IsNameFault s) (Some (at q k))) → stop ≡ stop_of f → Elaborates s (Err stop)
stopped s r (n.Construct q k) stop is of e = subst (λ z. Elaborates s (Err z)) (sym e) (misnamed (of q k is))
stopped s r n.Memory stop is of e = subst (λ z. Elaborates s (Err z)) (sym e) tt

-- a design that meets the flat design of a source without faults of names is sound
pub sound-met : (s : Source) (r : Result Design Stop) → IsFirst (IsNameFault s) None → Meets r (o.flattened s) → IfOk r (λ d. IsSound (flat_of d))
sound-met s (Ok d) none h = (source-sound s (λ f z. none f (of_declaration f z)) (λ f z. none f (of_use f z)) _ h).sound
sound-met s (Err e) none h = tt

pub inputs-met : (s : Source) (r : Result Design Stop) → IsFirst (IsNameFault s) None → Meets r (o.flattened s) → IfOk r (λ d. NoLoopInputs (flat_of d))
inputs-met s (Ok d) none h = (source-sound s (λ f z. none f (of_declaration f z)) (λ f z. none f (of_use f z)) _ h).inputs
inputs-met s (Err e) none h = tt
