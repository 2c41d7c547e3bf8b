-- Who is put in line when.
use Rattle.std.proofs.Common.{◌≡◌, ℕ, ◌+◌, eqb, Bool, true, false, List, [], ◌∷◌, ◌++◌, length, filter, cond, refl, sym, ap, ◌∙◌, arith, eq-eqb, Option, Some, None}
use Rattle.std.specs.Prelude.{◌==◌, ◌&&◌, if◌then◌else◌, is_some}
use Rattle.std.proofs.lemmas.Bool.{false≢true}
use Rattle.ten_files.specs.vl_design.specs.declared.capacity.Cost.{Cost}
use Rattle.fab_model.specs.fab_lock.specs.declared.entry.Entry.{Entry}
use Rattle.fab_model.specs.fab_lock.specs.declared.entry.Kind.{Kind}
use Rattle.fab_model.specs.fab_lock.specs.declared.entry.Kind.TheVariants.{Line, Came, Ran, Saved, Left}
use Rattle.fab_model.specs.declared.note.Note.{Note}
use Rattle.fab_model.specs.Deeds.{Deed, deed_in}
use Rattle.fab_model.specs.Histories.{after, place_of, Away, Inside, IsLegal, IsLegalFrom, May, Place, Seat}
use Rattle.fab_model.specs.Moves.{total}
use Rattle.fab_model.specs.Tokens as tokens
use Rattle.fab_model.specs.Tokens.{put_at, puts, Token}
use Rattle.host_files.specs.host_form.specs.Histories as report
use Rattle.host_files.specs.host_form.specs.Histories.{is_line, lines_at, lines_of, notes_of}
use Rattle.host_report.specs.Told.{told, told_note}
use Rattle.fab_model.proofs.Shared.{has_deed}

module _ (t j : ℕ) where
  abbrev counts : Token → ℕ
  counts x = if (x.tenant == t) && (x.tick == j) then 1 else 0

  abbrev at_tick : List report.Note → List report.Note
  at_tick ns = filter (λ n. n.entry.from == j) ns

  abbrev lines : List report.Note → List report.Note
  lines ns = filter (λ n. is_line n.entry.kind) ns

  -- a line of the tenant
  line_here : (n : Note) (ms : List report.Note) (ns : List Token) (o : Option Deed) → is_some o ≡ true → eqb n.entry.tenant t ≡ true → length (at_tick ms) ≡ total counts ns
      → length (at_tick (told_note n ∷ ms)) ≡ total counts (tokens.told n.entry o ++ ns)
  line_here n ms ns None s e r = absurd (false≢true s)
  line_here n ms ns (Some d) s e r = step (eqb n.entry.from j) ∙ ap (λ b. cond (b && (n.entry.from == j)) 1 0 + total counts ns) (sym e)
    where
      step : (b : Bool) → length (cond b (told_note n ∷ at_tick ms) (at_tick ms)) ≡ cond (true && b) 1 0 + total counts ns
      step true = omega (arith, r)
      step false = omega (arith, r)

  -- a line of another
  line_other : (e : Entry) (ns : List Token) (o : Option Deed) → eqb e.tenant t ≡ false → total counts ns ≡ total counts (tokens.told e o ++ ns)
  line_other e ns None h = refl
  line_other e ns (Some d) h = let z : counts (record { tenant = e.tenant; tick = e.from; deed = d }) ≡ 0 = ap (λ b. cond (b && (e.from == j)) 1 0) h in omega (arith, z)

  note_here : (g : ℕ) (k : Kind) (p : Place) (n : Note) (ms : List report.Note) (ns : List Token) → May g k p n → eqb n.entry.tenant t ≡ true → length (at_tick (lines ms)) ≡ total counts ns
      → length (at_tick (cond (is_line k) (told_note n ∷ lines ms) (lines ms))) ≡ total counts (put_at k n ++ ns)
  note_here g Line p n ms ns m e r = line_here n (lines ms) ns (deed_in n) (has_deed g p n m) e r
  note_here g Came p n ms ns m e r = r
  note_here g Ran p n ms ns m e r = r
  note_here g Saved p n ms ns m e r = r
  note_here g Left p n ms ns m e r = r

  note_other : (k : Kind) (n : Note) (ns : List Token) → eqb n.entry.tenant t ≡ false → total counts ns ≡ total counts (put_at k n ++ ns)
  note_other Line n ns h = line_other n.entry ns (deed_in n) h
  note_other Came n ns h = refl
  note_other Ran n ns h = refl
  note_other Saved n ns h = refl
  note_other Left n ns h = refl

  lines_from : (g : ℕ) (c : Cost) (ss : List Seat) (ns : List Note) → IsLegalFrom g c ss ns → lines_at t j (told ns) ≡ total counts (puts ns)
  lines_from g c ss [] l = refl
  lines_from g c ss (n ∷ ns) l = step (eqb n.entry.tenant t) refl (lines_from g c (after n.entry.kind ss n) ns l.2)
    where
      step : (b : Bool) → eqb n.entry.tenant t ≡ b → lines_at t j (told ns) ≡ total counts (puts ns)
          → length (at_tick (lines (cond b (told_note n ∷ notes_of t (told ns)) (notes_of t (told ns))))) ≡ total counts (put_at n.entry.kind n ++ puts ns)
      step true e r = note_here g n.entry.kind (place_of n.entry.tenant ss) n (notes_of t (told ns)) (puts ns) l.0 e r
      step false e r = r ∙ note_other n.entry.kind n (puts ns) e

pub lines_read : (g t j : ℕ) (c : Cost) (notes : List Note) → IsLegal g c notes → lines_at t j (told notes) ≡ total (λ x. if (x.tenant == t) && (x.tick == j) then 1 else 0) (puts notes)
lines_read g t j c notes l = lines_from t j g c [] notes l

-- a list that has none at any tick is empty
none_at : (xs : List report.Note) → ((j : ℕ) → length (filter (λ n. n.entry.from == j) xs) ≡ 0) → xs ≡ []
none_at [] h = refl
none_at (x ∷ xs) h = step (eqb x.entry.from x.entry.from) (eq-eqb x.entry.from x.entry.from refl) (h x.entry.from)
  where
    step : (b : Bool) → b ≡ true → length (cond b (x ∷ filter (λ n. n.entry.from == x.entry.from) xs) (filter (λ n. n.entry.from == x.entry.from) xs)) ≡ 0 → (x ∷ xs) ≡ []
    step true e z = absurd (omega (arith, z))
    step false e z = absurd (false≢true e)

pub none_read : (t : ℕ) (notes : List Note) → ((j : ℕ) → lines_at t j (told notes) ≡ 0) → lines_of t (told notes) ≡ []
none_read t notes h = none_at (lines_of t (told notes)) h
