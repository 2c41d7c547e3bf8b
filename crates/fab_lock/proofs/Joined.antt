-- What is found after a join.
use Rattle.std.proofs.Common.{◌≡◌, ◌≤◌, ℕ, List, ◌∷◌, ◌++◌, length, drop, subst}
use Rattle.std.specs.Prelude.{All}
use Rattle.std.proofs.lemmas.List.Elements.{All-head, All-tail, All-drop}
use Rattle.std.proofs.Math.Seq.{drop-append_seam}
use Rattle.fab_lock.specs.declared.entry.Entry.{Entry}
use Rattle.fab_lock.specs.declared.view.View.{View}
use Rattle.fab_lock.specs.Facts.{Finds}
use Rattle.fab_lock.specs.Histories.{notes_of, high}
use Rattle.fab_lock.specs.Views.{after_join}

-- what holds of a list holds of its end
all_behind : {A : Type 0} (P : A → Type 0) (xs ys : List A) → All P (xs ++ ys) → All P ys
all_behind P xs ys all = subst (All P) (drop-append_seam xs ys) (All-drop P (length xs) (xs ++ ys) all)

module _ {L N : Type 0} (entry : N → Entry) (v other : View L N) (history : List N) (words : List ℕ) (found : Finds entry history words (after_join v other)) where
  pub own_found : notes_of entry other.low history ≡ other.own
  own_found = All-head (λ (seat : ℕ × List N). notes_of entry seat.0 history ≡ seat.1) (other.low, other.own) other.joined
      (all_behind (λ (seat : ℕ × List N). notes_of entry seat.0 history ≡ seat.1) v.joined ((other.low, other.own) ∷ other.joined) found.joined)

  pub joined_found : All (λ (seat : ℕ × List N). notes_of entry seat.0 history ≡ seat.1) other.joined
  joined_found = All-tail (λ (seat : ℕ × List N). notes_of entry seat.0 history ≡ seat.1) (other.low, other.own) other.joined
      (all_behind (λ (seat : ℕ × List N). notes_of entry seat.0 history ≡ seat.1) v.joined ((other.low, other.own) ∷ other.joined) found.joined)

  pub known_found : All (λ (word : ℕ × ℕ). word.1 ≤ high entry word.0 history) other.known
  known_found = all_behind (λ (word : ℕ × ℕ). word.1 ≤ high entry word.0 history) v.known other.known found.known
