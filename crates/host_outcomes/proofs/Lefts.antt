-- Who leaves when.
use Rattle.std.proofs.Common.{◌≡◌, ℕ, ◌+◌, eqb, Bool, true, false, List, [], ◌∷◌, ◌++◌, length, filter, cond, refl, sym, ap, ◌∙◌, arith, Option, Some, None}
use Rattle.std.specs.Prelude.{◌==◌, ◌&&◌, is_some}
use Rattle.std.proofs.lemmas.Bool.{false≢true}
use Rattle.fab_orders.specs.fab_lock.specs.declared.entry.Entry.{Entry}
use Rattle.fab_orders.specs.fab_lock.specs.declared.entry.Kind.{Kind}
use Rattle.fab_orders.specs.fab_lock.specs.declared.entry.Kind.TheVariants.{Line, Came, Ran, Saved, Left}
use Rattle.host_report.specs.fab_model.specs.declared.note.Note.{Note}
use Rattle.host_report.specs.fab_model.specs.Deeds.{Deed, deed_in}
use Rattle.host_report.specs.fab_model.specs.Histories.{after, place_of, Away, Inside, IsLegal, IsLegalFrom, May, Place, Seat}
use Rattle.host_report.specs.fab_model.specs.Tokens as tokens
use Rattle.host_report.specs.fab_model.specs.Tokens.{out_at, outs, Token}
use Rattle.fab_orders.specs.fab_bay.specs.declared.noted.Label.{Label}
use Rattle.fab_orders.specs.Totals.{total}
use Rattle.host_judge.specs.host_form.specs.Histories as report
use Rattle.host_judge.specs.host_form.specs.Histories.{is_left, lefts_at, notes_of}
use Rattle.host_report.specs.Told.{told, told_note}
use Rattle.host_outcomes.proofs.Sums.{counts}

has_deed : (g : ℕ) (p : Place) (n : Note) → May g Left p n → is_some (deed_in n) ≡ true
has_deed g Away n m = absurd m
has_deed g (Inside a b c d) n m = ap (λ (o : Option Deed). is_some o) m.0.known

module _ (t j : ℕ) where
  abbrev lefts : List report.Note → List report.Note
  lefts ns = filter (λ n. is_left n.entry.kind && n.entry.from == j) ns

  -- the tenant leaves
  left_here : (n : Note) (ms : List report.Note) (ns : List Token) (o : Option Deed) → is_some o ≡ true → eqb n.entry.tenant t ≡ true → length (lefts ms) ≡ total (counts t j) ns
      → length (cond (n.entry.from == j) (told_note n ∷ lefts ms) (lefts ms)) ≡ total (counts t j) (tokens.told n.entry o ++ ns)
  left_here n ms ns None s e r = absurd (false≢true s)
  left_here n ms ns (Some d) s e r = step (eqb n.entry.from j) ∙ ap (λ b. cond (b && (n.entry.from == j)) 1 0 + total (counts t j) ns) (sym e)
    where
      step : (b : Bool) → length (cond b (told_note n ∷ lefts ms) (lefts ms)) ≡ cond (true && b) 1 0 + total (counts t j) ns
      step true = omega (arith, r)
      step false = omega (arith, r)

  -- another leaves
  left_other : (e : Entry) (ns : List Token) (o : Option Deed) → eqb e.tenant t ≡ false → total (counts t j) ns ≡ total (counts t j) (tokens.told e o ++ ns)
  left_other e ns None h = refl
  left_other e ns (Some d) h = let z : counts t j (record { tenant = e.tenant; tick = e.from; deed = d }) ≡ 0 = ap (λ b. cond (b && (e.from == j)) 1 0) h in omega (arith, z)

  note_here : (g : ℕ) (k : Kind) (p : Place) (n : Note) (ms : List report.Note) (ns : List Token) → May g k p n → eqb n.entry.tenant t ≡ true → length (lefts ms) ≡ total (counts t j) ns
      → length (cond (is_left k && (n.entry.from == j)) (told_note n ∷ lefts ms) (lefts ms)) ≡ total (counts t j) (out_at k n ++ ns)
  note_here g Line p n ms ns m e r = r
  note_here g Came p n ms ns m e r = r
  note_here g Ran p n ms ns m e r = r
  note_here g Saved p n ms ns m e r = r
  note_here g Left p n ms ns m e r = left_here n ms ns (deed_in n) (has_deed g p n m) e r

  note_other : (k : Kind) (n : Note) (ns : List Token) → eqb n.entry.tenant t ≡ false → total (counts t j) ns ≡ total (counts t j) (out_at k n ++ ns)
  note_other Line n ns h = refl
  note_other Came n ns h = refl
  note_other Ran n ns h = refl
  note_other Saved n ns h = refl
  note_other Left n ns h = left_other n.entry ns (deed_in n) h

  lefts_from : (g : ℕ) (l : Label) (ss : List Seat) (ns : List Note) → IsLegalFrom g l.capacity ss ns → lefts_at t j (told ns) ≡ total (counts t j) (outs ns)
  lefts_from g l ss [] a = refl
  lefts_from g l ss (n ∷ ns) a = step (eqb n.entry.tenant t) refl (lefts_from g l (after n.entry.kind ss n) ns a.2)
    where
      step : (b : Bool) → eqb n.entry.tenant t ≡ b → lefts_at t j (told ns) ≡ total (counts t j) (outs ns)
          → length (lefts (cond b (told_note n ∷ notes_of t (told ns)) (notes_of t (told ns)))) ≡ total (counts t j) (out_at n.entry.kind n ++ outs ns)
      step true e r = note_here g n.entry.kind (place_of n.entry.tenant ss) n (notes_of t (told ns)) (outs ns) a.0 e r
      step false e r = r ∙ note_other n.entry.kind n (outs ns) e

-- how often a report reads from a legal history that a tenant leaves at a tick
pub lefts_read : (g t j : ℕ) (l : Label) (notes : List Note) → IsLegal g l.capacity notes → lefts_at t j (told notes) ≡ total (counts t j) (outs notes)
lefts_read g t j l notes a = lefts_from t j g l [] notes a
