-- What a step leaves true: of the whole table, and of the views of the other seats.
use Rattle.std.proofs.Common.{◌≡◌, ◌≢◌, ℕ, ◌+◌, ◌<◌, ◌≤◌, Bool, true, false, List, [], ◌∷◌, length, get_or, set, sym, refl, ap, ◌∙◌, subst, arith, Option, Some, None, le_refl, le_trans}
use Rattle.std.specs.Prelude.{All}
use mathlib.Core.Option.{some}
use Rattle.std.proofs.lemmas.Option.{none-some}
use Rattle.std.proofs.lemmas.List.{set-get_or}
use Rattle.std.proofs.lemmas.List.Elements.{All-weaker}
use lib.ListN.{get_elem?}
use Rattle.atomic_table.specs.Table.{State, keeps, stepped}
use Rattle.fab_lock.specs.declared.entry.Entry.{Entry}
use Rattle.fab_lock.specs.declared.view.View.{View}
use Rattle.fab_lock.specs.Histories.{StartsWith, notes_of, high}
use Rattle.fab_lock.specs.Rule.{Holder, no_seat, the_seat, IsPlaced, IsJoined, IsKnown, IsTrueView, KeepsRule}
use Rattle.fab_lock.proofs.Growth.{starts_on}
use Rattle.atomic_table.proofs.Lists.{set_again}

-- where a seat that holds the value stands
abbrev pub place_of : Holder → ℕ
place_of no_seat = 0
place_of (the_seat j) = j

abbrev pub is_home : Holder → Bool
is_home no_seat = true
is_home (the_seat j) = false

-- a seat of the lock is no spent one
pub not_spent : {L N : Type 0} (here : L) (v : View L N) → v.label ≡ Some here → v.label ≢ None
not_spent here v mine e = none-some here (sym e ∙ mine)

module _ {L N : Type 0} (entry : N → Entry) (here : L) (count : ℕ) where
  abbrev V : Type 0
  V = View L N

  -- a view that isn't spent is true
  abbrev pub IsTrueOrSpent : (ℕ → ℕ) → List ℕ → List N → Holder → ℕ → V → Type 0
  IsTrueOrSpent owner words now holder j v = v.label ≢ None → IsTrueView entry here count owner words now holder j v

  -- another seat, which doesn't hold the value, where words rise and the seat at id adds to the history
  pub still_true : (owner : ℕ → ℕ) (words words' : List ℕ) (now now' : List N) (holder holder' : Holder) (id j : ℕ) (u : V) → j ≢ id → (u.holds ≡ true → ⊥)
      → ((i : ℕ) → i < count → get_or words (i + 1) 0 ≤ get_or words' (i + 1) 0) → StartsWith now' now → ((n : ℕ) → owner n ≢ id + 1 → notes_of entry n now' ≡ notes_of entry n now)
      → IsTrueView entry here count owner words now holder j u → IsTrueView entry here count owner words' now' holder' j u
  still_true owner words words' now now' holder holder' id j u other idle rise grows same f = record {
    label = f.label;
    counts = f.counts;
    begins = starts_on now' now u.seen grows f.begins;
    told = starts_on now' now u.told grows f.told;
    holds = λ h. absurd (idle h);
    ranged = f.ranged;
    own = same u.low (λ e. other (let is = f.ranged u.low (le_refl u.low) (omega arith) in omega arith)) ∙ f.own;
    unused = λ n a b. same n (λ e. other (let is = f.ranged n (omega arith) b in omega arith)) ∙ f.unused n a b;
    joined = All-weaker (IsJoined entry owner now) (IsJoined entry owner now') (λ p t. (t.0, same p.0 (λ e. let z = t.0 in absurd (omega arith)) ∙ t.1)) u.joined f.joined;
    known = All-weaker (IsKnown count words) (IsKnown count words') (λ p t. (t.0, le_trans t.1 (rise p.0 t.0))) u.known f.known;
  }

  -- another seat, where no number changes hands but those of the seat at id
  pub still_true_owned : (owner owner' : ℕ → ℕ) (words : List ℕ) (now : List N) (holder : Holder) (id j : ℕ) (u : V) → j ≢ id → ((n : ℕ) → owner n ≢ id + 1 → owner' n ≡ owner n)
      → IsTrueView entry here count owner words now holder j u → IsTrueView entry here count owner' words now holder j u
  still_true_owned owner owner' words now holder id j u other agree f = record {
    label = f.label;
    counts = f.counts;
    begins = f.begins;
    told = f.told;
    holds = f.holds;
    ranged = λ n a b. agree n (λ e. other (let is = f.ranged n a b in omega arith)) ∙ f.ranged n a b;
    own = f.own;
    unused = f.unused;
    joined = All-weaker (IsJoined entry owner now) (IsJoined entry owner' now) (λ p t. (agree p.0 (λ e. let z = t.0 in absurd (omega arith)) ∙ t.0, t.1)) u.joined f.joined;
    known = f.known;
  }

module _ {T L N : Type 0} (label : T → L) (history : T → List N) (entry : N → Entry) (here : L) (count : ℕ) where
  abbrev St : Type 0
  St = State (Option T) (View L N)

  abbrev Holds : St → Type 0
  Holds = KeepsRule label history entry here count

  -- a step that changes nothing
  pub stays : (s : St) → Holds s → (i id : ℕ) (v : View L N) (c : List (ℕ × Option T)) → get_elem? s.views id ≡ some v → Holds (stepped s i (get_or s.words i 0) id c v keeps)
  stays s r i id v c at = subst (λ (z : List ℕ × List (View L N)). Holds record { words = z.0; homes = s.homes; views = z.1 }) (λ k. (sym (set-get_or s.words i 0) k, sym (set_again s.views id v at) k)) r

  -- while word 0 is 0 the value is at home
  abbrev pub IsHome : St → List N → Holder → Type 0
  IsHome s now st = (st ≡ no_seat) × ((i : ℕ) → i < count → get_or s.words (i + 1) 0 ≡ high entry i now) × ((x : T) × (get_elem? s.homes 0 ≡ some (some (Some x))) × (label x ≡ here) × (history x ≡ now))

  pub finds : (s : St) (now : List N) (st : Holder) → IsPlaced label history entry here count s.words s.homes now st → get_or s.words 0 0 ≡ 0 → IsHome s now st
  finds s now no_seat t e = (refl, t.1, t.2)
  finds s now (the_seat j) t e = absurd (omega arith)

  -- no word is behind the history
  pub reaches : (s : St) (now : List N) (st : Holder) → IsPlaced label history entry here count s.words s.homes now st → (i : ℕ) → i < count → high entry i now ≤ get_or s.words (i + 1) 0
  reaches s now no_seat t i l = let e = t.1 i l in omega arith
  reaches s now (the_seat j) t i l = t.1 i l
