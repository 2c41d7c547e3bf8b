-- What stands in a connection is used as what it is.
use Rattle.std.proofs.Common.{◌≡◌, ℕ, Bool, true, false, if◌then◌else◌, List, Option, Some, None, refl, subst}
use Rattle.std.specs.Prelude.{find, position, slice_get}
use Rattle.std.specs.Option.{option_and_then}
use Rattle.std.specs.Str.{bytes_eq}
use Rattle.vl_flat.specs.Surface.{Ex}
use Rattle.vl_flat.specs.Items.{Connection}
use Rattle.vl_flat.specs.Connections.{is_for, by_name, connection_of, named_connection, expression_of}
use Rattle.vl_sound.specs.Used.{Classes, IsUsed, IsUsedValue, AreConnected}
use Rattle.vl_sound.proofs.Lists.{found-holds, at-holds}

module _ (k : Classes) where
  abbrev Used : Connection → Type 0
  Used q = IsUsedValue k q.value

  used-of : (o : Option Connection) → ((q : Connection) → o ≡ Some q → Used q) → IsUsedValue k (expression_of o)
  used-of None g = tt
  used-of (Some q) g = g q refl

  -- a connection of one of these names
  pub connected-value : (qs : List Connection) → AreConnected k qs → (names : List (List ℕ)) (t : List ℕ) → IsUsedValue k (expression_of (named_connection names qs t))
  connected-value qs v names t = of (position (bytes_eq t) names)
    where
      one : (c : Bool) (j : ℕ) (q : Connection) → (if c then find (is_for t) qs else slice_get qs j) ≡ Some q → Used q
      one true j q h = found-holds Used (is_for t) qs q v h
      one false j q h = at-holds Used qs j q v h

      of : (o : Option ℕ) → IsUsedValue k (expression_of (option_and_then (λ j. connection_of qs j t) o))
      of None = tt
      of (Some j) = used-of (connection_of qs j t) (one (by_name qs) j)

  pub connected-used : (qs : List Connection) → AreConnected k qs → (names : List (List ℕ)) (t : List ℕ) (a : Ex) → expression_of (named_connection names qs t) ≡ Some a → IsUsed k a
  connected-used qs v names t a h = subst (IsUsedValue k) h (connected-value qs v names t)
