-- System calls by how they are used, and what is used so.
use Rattle.std.proofs.Common.{◌≡◌, ℕ, Bool, true, false, List, refl, sym, subst}
use Rattle.std.specs.Prelude.{⊤, ◌||◌, codes}
use Rattle.std.proofs.lemmas.Bool.{or_left}
use Rattle.vl_flat.specs.vl_base.specs.declared.place.Place.{Place}
use Rattle.vl_flat.specs.vl_tree.specs.declared.tree.UnaryOperator.TheVariants.{LogicalNot}
use Rattle.vl_names.specs.vl_scope.proofs.Listed.{bytes_eq-to}
use Rattle.vl_names.specs.vl_uses.specs.declared.setting.Usage.{Usage}
use Rattle.vl_names.specs.vl_uses.specs.declared.setting.Usage.TheVariants.{Task, Whole, Operand}
use Rattle.vl_names.specs.vl_uses.specs.Nodes.{is_load}
use Rattle.vl_flat.specs.Surface as x
use Rattle.vl_sound.specs.Used.{Classes, IsUsed, AreUsedArgs, IsUsedSide, IsUsedTest, IsUsedTask, IsLoad, ByTest, is_operand, is_on_files}

-- a call may be used so
abbrev pub Loads : Classes → Usage → x.Ex → Type 0
Loads k Task (x.System at name given) = ByTest (is_load name) (IsLoad k given) ⊤
Loads k Whole (x.System at name given) = (is_operand name || is_on_files name) ≡ true
Loads k Operand (x.System at name given) = is_operand name ≡ true
Loads k usage e = ⊥

-- a call is used so, with its arguments
abbrev pub UsedAs : Classes → Usage → x.Ex → Type 0
UsedAs k Task (x.System at name given) = IsUsedTask k name given
UsedAs k Task e = ⊥
UsedAs k Whole e = IsUsedSide k e
UsedAs k Operand e = IsUsed k e

-- a function loads no memory
pub loads-none : (name : List ℕ) → (is_operand name || is_on_files name) ≡ true → is_load name ≡ false
loads-none name h = by (is_load name) refl
  where
    by : (c : Bool) → is_load name ≡ c → c ≡ false
    by false q = refl
    by true q = let z : ⊥ = cc (subst (λ n. (is_operand n || is_on_files n) ≡ true) (sym (bytes_eq-to name (codes "$readmemh") q)) h) in absurd z

pub used-as : (k : Classes) (usage : Usage) (at : Place) (name : List ℕ) (given : x.Args) → Loads k usage (x.System at name given) → (is_load name ≡ false → AreUsedArgs k given) → UsedAs k usage (x.System at name given)
used-as k Whole at name given h g = (h, g (loads-none name h))
used-as k Operand at name given h g = (h, g (loads-none name (or_left (is_operand name) (is_on_files name) h)))
used-as k Task at name given h g = by (is_load name) refl h
  where
    by : (c : Bool) → is_load name ≡ c → ByTest c (IsLoad k given) ⊤ → ByTest c (IsLoad k given) (AreUsedArgs k given)
    by true q h = h
    by false q h = g q

pub used-side : (k : Classes) (a : x.Ex) → IsUsed k a → IsUsedSide k a
used-side k (x.System at name given) v = (or_left (is_operand name) (is_on_files name) v.0, v.1)
used-side k (x.Paren at a) v = used-side k a v
used-side k a v = v

pub side-test : (k : Classes) (a : x.Ex) → IsUsedSide k a → IsUsedTest k a
side-test k (x.Unary at LogicalNot a) v = used-side k a v
side-test k (x.Paren at a) v = side-test k a v
side-test k a v = v
