-- What is found where a desk is closed.
use Rattle.std.proofs.Common.{◌≡◌, ◌≢◌, ◌≤◌, ℕ, false, List, ◌∷◌, ◌++◌, refl, sym, ap, ◌∙◌, subst, arith}
use Rattle.std.specs.Prelude.{All}
use Rattle.std.proofs.lemmas.List.Elements.{All-head, All-weaker}
use Rattle.fab_core.specs.fab_lock.specs.Histories.{high, notes_of, StartsWith}
use Rattle.fab_core.specs.fab_lock.specs.Views.{after_join}
use Rattle.fab_core.specs.fab_model.specs.declared.note.Note.{Note}
use Rattle.fab_core.specs.fab_model.specs.Histories.{IsLegal}
use Rattle.fab_core.specs.fab_model.specs.Origins.{AreOwn}
use Rattle.fab_core.specs.fab_model.specs.Tokens.{outs, puts}
use Rattle.fab_desk.specs.fab_bay.specs.declared.noted.Label.{Label}
use Rattle.fab_desk.specs.fab_bay.specs.declared.noted.NotedCore.{NotedCore}
use Rattle.fab_core.specs.fab_model.specs.Histories.{entry_of}
use Rattle.fab_desk.specs.Desks.{DeskView, Finds}
use Rattle.fab_orders.specs.Totals.{total}
use Rattle.fab_rounds.specs.Ledgers.{reach, DeskSeatFacts, IsShut}
use Rattle.fab_rounds.proofs.Conserved.{by_others, outs_apart, puts_by_zero}
use Rattle.fab_rounds.proofs.Reach.{heard_within, high_starts}
use Rattle.fab_rounds.proofs.Taken.{all_before, all_behind}

-- a pair of a seat's number and its notes
module _ (label : Label) (first other : DeskSeatFacts) (v : DeskView) (b : NotedCore) (join : v ≡ after_join first.view other.view) (zero : first.view.low ≡ 0) (apart : other.view.low ≢ 0) (finds : Finds label v b.notes.items) (any : label.any_puts ≡ false) (is : b.label ≡ label) (begins : StartsWith v.seen first.view.seen) where
  own : notes_of entry_of 0 b.notes.items ≡ first.view.own
  own = ap (λ (k : ℕ). notes_of entry_of k b.notes.items) (sym (ap (λ (x : DeskView). x.low) join ∙ zero)) ∙ finds.own ∙ ap (λ (x : DeskView). x.own) join

  joined : notes_of entry_of other.view.low b.notes.items ≡ other.view.own
  joined =
      let a = subst (λ (x : DeskView). All (λ seat. notes_of entry_of seat.0 b.notes.items ≡ seat.1) x.joined) join finds.joined in
      All-head (λ seat. notes_of entry_of seat.0 b.notes.items ≡ seat.1) (other.view.low, other.view.own) other.view.joined
      (all_behind (λ seat. notes_of entry_of seat.0 b.notes.items ≡ seat.1) first.view.joined ((other.view.low, other.view.own) ∷ other.view.joined) a)

  words : All (λ word. word.1 ≤ high entry_of word.0 b.notes.items) (first.view.known ++ other.view.known)
  words = subst (λ (x : DeskView). All (λ word. word.1 ≤ high entry_of word.0 b.notes.items) x.known) join finds.known

  far : (t : ℕ) → reach t first ≤ high entry_of t b.notes.items
  far t =
      let a = high_starts t v.seen first.view.seen begins in
      let c = high_starts t b.notes.items v.seen finds.begins in
      let d = heard_within t (high entry_of t b.notes.items) first.view.known
      (All-weaker (λ (w : ℕ × ℕ). w.1 ≤ high entry_of w.0 b.notes.items) (λ (w : ℕ × ℕ). w.0 ≡ t → w.1 ≤ high entry_of t b.notes.items) (λ w h e. subst (λ (n : ℕ). w.1 ≤ high entry_of n b.notes.items) e h) first.view.known
      (all_before (λ (w : ℕ × ℕ). w.1 ≤ high entry_of w.0 b.notes.items) first.view.known other.view.known words)) in
      omega (arith, a, c, d)

  pub shut : IsShut first other b
  shut = record {
    closed = record { label = refl; legal = subst (λ (l : Label). IsLegal l.fabric l.capacity b.notes.items) (sym is) finds.legal; lines = finds.lines any; own = subst (λ (l : Label). AreOwn l.origins (puts b.notes.items)) (sym is) finds.starts };
    rest = outs (by_others other.view.low b.notes.items);
    outs = λ f. omega (
      arith,
      outs_apart f other.view.low apart b.notes.items,
      ap (λ (l : List Note). total f (outs l)) own,
      ap (λ (l : List Note). total f (outs l)) joined,
    );
    puts = λ f. omega (arith, puts_by_zero f b.notes.items (finds.lines any), ap (λ (l : List Note). total f (puts l)) own);
    reach = far;
  }
