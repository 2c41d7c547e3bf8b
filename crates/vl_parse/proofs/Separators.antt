-- The separators of events.
use Rattle.std.proofs.Common.{◌≡◌, ℕ, List, [], ◌∷◌, ◌++◌, Option, Some, None, codes, refl, length, ◌<◌, Ok}
use Rattle.vl_tree.specs.vl_base.specs.declared.place.Place.{Place}
use Rattle.vl_tree.specs.declared.token.Token.{Token}
use Rattle.vl_tree.specs.Reading.{next_by, behind, mark, keyword}
use Rattle.vl_tree.specs.declared.source_fault.Fault.{Fault}
use Rattle.vl_tree.specs.declared.source_tree.Event.{Event}
use Rattle.vl_tree.specs.Parsers.{and_then, pure, Fails}
use Rattle.vl_tree.specs.Parsing.{whole, target, between_events, either_place, event, events}
use Rattle.vl_pstmt.proofs.Passing.{fails_on, GoesOn}
use Rattle.vl_parse.proofs.Lists.{added_ok}

either_first : (n : ℕ) (a b : Option Place) (us vs : List Token) (x : Place) → Some (x, us) ≡ behind vs a → Some (x, us) ≡ behind vs (either_place (whole n) (target n) n a b)
either_first n None b us vs x h = let z : ⊥ = cc in absurd z
either_first n (Some y) b us vs x h = h

either_second : (n : ℕ) (a b : Option Place) (vs : List Token) → None ≡ behind vs a → behind vs b ≡ behind vs (either_place (whole n) (target n) n a b)
either_second n None b vs h = refl
either_second n (Some y) b vs h = let z : ⊥ = cc in absurd z

module _ (n : ℕ) where
  -- "or"
  pub separator_first : (ts us : List Token) (x : Place) → Some (x, us) ≡ next_by (keyword (codes "or")) ts → Some (x, us) ≡ next_by (between_events (whole n) (target n) n) ts
  unfolding next_by between_events
  separator_first [] us x h = h
  separator_first (t ∷ ts) us x h = either_first n (keyword (codes "or") t) (mark (codes ",") t) us ts x h

  -- ","
  pub separator_second : (ts : List Token) → None ≡ next_by (keyword (codes "or")) ts → next_by (mark (codes ",")) ts ≡ next_by (between_events (whole n) (target n) n) ts
  unfolding next_by between_events
  separator_second [] h = refl
  separator_second (t ∷ ts) h = either_second n (keyword (codes "or") t) (mark (codes ",") t) ts h

  -- events go on behind the first one
  pub events_open : (ts us : List Token) (a : Event) → event (whole n) (target n) n ts ≡ Ok (a, us) → length us < n → GoesOn (between_events (whole n) (target n) n) (λ _. event (whole n) (target n) n) (a ∷ []) us (events (whole n) (target n) n ts)
  unfolding events
  events_open ts us a h l = (n, l, rw h refl)

  -- events go on behind the first one that they have
  pub events_opened : (ts us : List Token) (none front : List Event) → none ≡ [] → and_then (event (whole n) (target n) n ts) (λ a. pure (none ++ a ∷ [])) ≡ Ok (front, us) → length us < n → GoesOn (between_events (whole n) (target n) n) (λ _. event (whole n) (target n) n) front us (events (whole n) (target n) n ts)
  events_opened ts us none front z h l =
      let k : and_then (event (whole n) (target n) n ts) (λ a. pure ([] ++ a ∷ [])) ≡ Ok (front, us) = rw z at h in
      let q = added_ok (event (whole n) (target n) n ts) [] front us k in
      rw (← q.2) (events_open ts us q.0 q.1 l)

  -- a fault in the first one is one of them all
  pub events_fail : (ts : List Token) (e : Fault) → Fails e (event (whole n) (target n) n ts) → Fails e (events (whole n) (target n) n ts)
  unfolding events
  events_fail ts e h = fails_on e _ _ h
