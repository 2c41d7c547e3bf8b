-- The flat design of a source whose uses of names have no fault: what holds of its processes and of its functions.
use Rattle.std.proofs.Common.{◌≡◌, ℕ, suc, List, [], ◌∷◌, Option, Some, None, Result, Ok, Err, refl, sym, ap, ◌∙◌, subst}
use Rattle.std.specs.Prelude.{flat_map, All}
use Rattle.std.proofs.lemmas.List.Elements.{All-nil, All-append, All-head, All-tail}
use Rattle.vl_sound.specs.vl_tree.specs.declared.source_tree.Source.{Source}
use Rattle.vl_sound.specs.vl_tree.specs.declared.source_tree.Module.{Module as ModuleTree}
use Rattle.vl_sound.specs.vl_scope.specs.declared.fault.Fault.{Fault}
use Rattle.vl_sound.specs.vl_scope.specs.Faults.{In}
use Rattle.vl_sound.specs.vl_scope.specs.Declarations.{declarations}
use Rattle.vl_sound.specs.vl_uses.specs.UseFaults.{IsUseFault}
use Rattle.ten_plan.specs.vl_design.specs.declared.stop.Stop.{Stop}
use Rattle.ten_plan.specs.vl_design.specs.Placed as p
use Rattle.vl_sound.specs.vl_flat.specs.Items as i
use Rattle.vl_sound.specs.vl_flat.specs.Declarations.{module', modules}
use Rattle.vl_sound.specs.vl_flat.specs.Environments.{Given, size, environment}
use Rattle.vl_sound.specs.vl_flat.specs.Flat as f
use Rattle.vl_sound.specs.vl_flat.specs.Outcome as o
use Rattle.vl_sound.specs.vl_flat.specs.Outcome.{◌>>=◌, flattened}
use Rattle.vl_sound.specs.Used.{Classes, classes}
use Rattle.vl_sound.specs.Instances.{IsInstance, here_of}
use Rattle.vl_sound.proofs.Numbers.{design-is}
use Rattle.vl_sound.proofs.Depth.{judged-clear}
use Rattle.vl_sound.proofs.InstancesOfAgree.{instance-of}
use Rattle.elab_laws.proofs.Made.{IsMadeUnit, IsMadeItem, source-made}
use Rattle.elab_laws.proofs.Variables.{at-in}
use Rattle.elab_laws.proofs.Parts.{Needs, all-done}
use Rattle.elab_laws.proofs.Processes.{Fits, item-so, input-so, output-so}

ok-first : {A : Type 0} (r : Result A Stop) (y z : p.Design) → (r >>= λ n. Ok y) ≡ Ok z → (t : A) × (r ≡ Ok t)
ok-first (Ok t) y z h = (t, refl)
ok-first (Err e) y z h = let q : ⊥ = cc in absurd q

all-flat : {A B : Type 0} (G : B → Type 0) (part : A → List B) (xs : List A) → All (λ (y : A). All G (part y)) xs → All G (flat_map part xs)
all-flat G part [] h = All-nil G
all-flat {A = A} G part (y ∷ xs) h = All-append G (part y) (flat_map part xs) (All-head (λ (y : A). All G (part y)) y xs h) (all-flat G part xs (All-tail (λ (y : A). All G (part y)) y xs h))

-- what is there has a top
pub with-top : (P : Type 0) (s : Source) (made : p.Design) → flattened s ≡ Ok made → ((top : i.Module) → f.top_of s ≡ Some top → P) → P
with-top P s made is g = by (f.top_of s) refl is
  where
    by : (q : Option i.Module) → f.top_of s ≡ q → o.flattened_by (modules s) q ≡ Ok made → P
    by None at h = let z : ⊥ = cc in absurd z
    by (Some top) at h = g top at

-- what stands in a unit of an instance
unit-made : (k : Classes) (m : i.Module) → All (IsMadeItem k) m.items → (us : i.Instances) → In (i.Instantiates us) m.items → (y : i.NamedUnit) → In y us.units → IsMadeUnit y
unit-made k m items us there y unit = at-in IsMadeUnit us.units y (at-in (IsMadeItem k) m.items (i.Instantiates us) items there) unit

module _ (s : Source) (top : i.Module) (is-top : f.top_of s ≡ Some top) (made : p.Design) (is-made : flattened s ≡ Ok made) where
  abbrev ms : List i.Module
  ms = modules s

  from-top : o.flattened_from ms top ≡ Ok made
  from-top = ap (o.flattened_by ms) (sym is-top) ∙ is-made

  pub design : f.design_of top (f.parts_from ms top) ≡ made
  design = design-is (o.judged o.nothing_yet (f.parts_from ms top)) (f.design_of top (f.parts_from ms top)) made from-top

  all-parts : (P : f.Part → Type 0) → Needs ms top P → All P (f.parts_from ms top)
  all-parts P needs =
      let parts = f.parts_from ms top in
      let judged = ok-first (o.judged o.nothing_yet parts) (f.design_of top parts) made from-top in
      all-done ms top P needs (judged-clear o.nothing_yet parts judged.0 judged.1)

  pub all-functions : (G : p.Func → Type 0) → Needs ms top (λ (a : f.Part). All G a.funcs) → All G made.funcs
  all-functions G needs =
      subst (λ (z : p.Design). All G z.funcs) design (all-flat G (λ (a : f.Part). a.funcs) (f.parts_from ms top) (all-parts (λ (a : f.Part). All G a.funcs) needs))

  -- an instance is one of a module of the source
  pub at-instances : (H : ℕ → Given → i.Module → Type 0) → ((n : ℕ) (g : Given) (tree : ModuleTree) → In tree s.modules → IsInstance ms top n g (module' tree) → H n g (module' tree))
      → (n : ℕ) (g : Given) (m : i.Module) → IsInstance ms top n g m → H n g m
  at-instances H here n g m h = let (tree, inside, same) = instance-of s top is-top n g m h in subst (H n g) same (here n g tree inside (subst (IsInstance ms top n g) (sym same) h))

  module _ (used : (e : Fault) → IsUseFault s e → ⊥) (G : p.Process → Type 0) (D : ℕ → Type 0) where
    -- an instance: its items are made so, and its processes fit
    record IsHome (n : ℕ) (g : Given) (m : i.Module) : Type 0 where
      k : Classes
      items : All (IsMadeItem k) m.items
      fits : Fits G D (here_of n ms top g m) m k

    -- where they do in each instance, each process of the design is so
    pub all-processes : ((n : ℕ) (g : Given) (tree : ModuleTree) → In tree s.modules → IsInstance ms top n g (module' tree)
        → Fits G D (here_of n ms top g (module' tree)) (module' tree) (classes (declarations tree))) → All G made.processes
    all-processes fits =
        subst (λ (z : p.Design). All G z.processes) design (all-flat G (λ (a : f.Part). a.processes) (f.parts_from ms top) (all-parts (λ (a : f.Part). All G a.processes) needs))
      where
        homes : (n : ℕ) (g : Given) (m : i.Module) → IsInstance ms top n g m → IsHome n g m
        homes = at-instances IsHome (λ n g tree inside h. record { k = classes (declarations tree); items = source-made s used tree inside; fits = fits n g tree inside h })

        needs : Needs ms top (λ (a : f.Part). All G a.processes)
        needs = record {
          begins = λ above g us. All-nil G;
          item = λ n g m h y there next clear.
              let at = homes n g m h in
              item-so G D (here_of n ms top g m) m at.k at.fits y there (at-in (IsMadeItem at.k) m.items y at.items there);
          input = λ n g m h own of within us there y unit t.
              let at = homes (suc n) g m h in
              let below = homes n own of within in
              input-so G D (here_of (suc n) ms top g m) m at.k at.fits (environment (size n ms) own of) of y (unit-made at.k m at.items us there y unit) t (below.fits.inputs t);
          output = λ n g m h own of within us there y unit t.
              let at = homes (suc n) g m h in
              output-so G D (here_of (suc n) ms top g m) m at.k at.fits (environment (size n ms) own of) of y (unit-made at.k m at.items us there y unit) t;
        }
