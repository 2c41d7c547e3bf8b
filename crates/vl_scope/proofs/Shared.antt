-- Laws that several crates use.
use Rattle.std.proofs.Common.{List, None, Option, Some, [], false, inl, inr, refl, sym, true, true≢false, ◌∷◌, ◌≡◌}
use Rattle.std.proofs.lemmas.List.Elements.{All-cons, All-nil}
use Rattle.std.specs.Prelude.{All}
use Rattle.vl_scope.specs.DeclarationFaults.{is_no_port}
use Rattle.vl_scope.specs.Faults.{In}
use Rattle.vl_scope.specs.declared.kind.Class.{Class}
use Rattle.vl_tree.specs.declared.source_tree.VariableMore.{VariableMore}
use Rattle.vl_scope.specs.Declarations as s
use Rattle.vl_scope.specs.declared.kind.Class.TheVariants as c
use Rattle.vl_tree.specs.declared.source_tree.VariableMore.TheVariants as v

pub parameter-no-port : (q : Class) → s.is_parameter q ≡ true → is_no_port q ≡ true
parameter-no-port (c.Parameter n) h = refl
parameter-no-port (c.Function n) h = refl
parameter-no-port c.Instance h = refl
parameter-no-port c.Port h = absurd (true≢false (sym h))
parameter-no-port c.Net h = absurd (true≢false (sym h))
parameter-no-port c.Variable h = absurd (true≢false (sym h))
parameter-no-port c.Memory h = absurd (true≢false (sym h))

pub all-in : {A : Type 0} (P : A → Type 0) (xs : List A) → ((y : A) → In y xs → P y) → All P xs
all-in P [] h = All-nil P
all-in P (y ∷ ys) h = All-cons P y ys (h y (inl refl)) (all-in P ys (λ z k. h z (inr k)))

pub stored-class : (o : Option VariableMore) → is_no_port (s.variable_class o) ≡ false
stored-class None = refl
stored-class (Some (v.Words addresses)) = refl
stored-class (Some (v.Value value)) = refl
