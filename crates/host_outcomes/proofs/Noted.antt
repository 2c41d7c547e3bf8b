-- What a tenant starts from where it is put in line.
use Rattle.std.proofs.Common.{◌≡◌, ℕ, zero, suc, ◌<◌, ◌≤◌, ◌⊎◌, inl, inr, eqb, Bool, true, false, List, [], ◌∷◌, ◌++◌, length, filter, get_or, cond, refl, sym, ap, ◌∙◌, subst, arith, Option, Some, None}
use Rattle.std.specs.Prelude.{is_some, slice_get, unwrap_or, option_map}
use Rattle.std.specs.List.{AllByRecursion}
use Rattle.std.proofs.lemmas.Bool.{cases_lt, eqb-true, false≢true}
use Rattle.ten_files.specs.vl_design.specs.Alone as alone
use Rattle.host_judge.specs.ten_core.specs.declared.origin.Origin.{Origin}
use Rattle.host_judge.specs.ten_core.specs.Tenants.{origin_of}
use Rattle.fab_orders.specs.ten_parcel.specs.Parcels.{origin_in, run_of}
use Rattle.fab_orders.specs.fab_lock.specs.declared.entry.Entry.{Entry}
use Rattle.fab_orders.specs.fab_lock.specs.declared.entry.Kind.{Kind}
use Rattle.fab_orders.specs.fab_lock.specs.declared.entry.Kind.TheVariants.{Line, Came, Ran, Saved, Left}
use Rattle.host_report.specs.fab_model.specs.declared.note.Note.{Note}
use Rattle.host_report.specs.fab_model.specs.Deeds.{deed_in, run_in, Deed}
use Rattle.host_report.specs.fab_model.specs.Histories.{after, place_of, Away, Inside, IsLegalFrom, May, Place, Seat}
use Rattle.host_report.specs.fab_model.specs.Origins.{AreOwn, Origins, StartsFrom}
use Rattle.host_report.specs.fab_model.specs.Tokens as tokens
use Rattle.host_report.specs.fab_model.specs.Tokens.{put_at, puts, Token}
use Rattle.fab_orders.specs.fab_bay.specs.declared.noted.Label.{Label}
use Rattle.fab_orders.specs.declared.outcomes.Order.{Order}
use Rattle.fab_orders.specs.declared.outcomes.Outcome.{Outcome}
use Rattle.fab_orders.specs.declared.outcomes.Start.{Start}
use Rattle.fab_orders.specs.Outcomes.{IsOutcome}
use Rattle.fab_orders.specs.Starts.{origins_of, AreLabels, NamesOrigins}
use Rattle.host_judge.specs.host_form.specs.Histories as report
use Rattle.host_judge.specs.host_form.specs.Histories.{history_of, is_line, lines_of, notes_of}
use Rattle.host_judge.specs.host_form.specs.Runs.{RunsAs, RunsAsNoted}
use Rattle.host_report.specs.Told.{origin_told, told, told_note}
use Rattle.host_outcomes.specs.Reported.{histories_of}
use Rattle.host_outcomes.proofs.Bays.{history_at, history_beyond, some_bay}
use Rattle.host_report.specs.fab_model.proofs.Shared.{has_deed}

-- ---- one history

module _ (all : Origins) (k : ℕ) (o : alone.Origin) (own : (x : Origin) → StartsFrom all k x → RunsAs o (origin_of x)) where
  abbrev AreNoted : List report.Note → Type 0
  AreNoted ms = AllByRecursion (λ m. RunsAsNoted o m.origin) ms

  rest_own : (xs ys : List Token) → AreOwn all (xs ++ ys) → AreOwn all ys
  rest_own [] ys h = h
  rest_own (x ∷ xs) ys h = rest_own xs ys h.1

  by_deed : (e : Entry) (d : Option Deed) (ys : List Token) → is_some d ≡ true → eqb e.tenant k ≡ true → AreOwn all (tokens.told e d ++ ys) → RunsAsNoted o (option_map run_in d)
  by_deed e None ys s q h = absurd (false≢true s)
  by_deed e (Some d) ys s q h = own d.origin (subst (λ (t : ℕ). StartsFrom all t d.origin) (eqb-true e.tenant k q) h.0)

  one_note : (i : Kind) (g : ℕ) (p : Place) (n : Note) (ms : List report.Note) (ys : List Token) → May g i p n → eqb n.entry.tenant k ≡ true → AreOwn all (put_at i n ++ ys) → AreNoted ms
      → AreNoted (cond (is_line i) (record { entry = n.entry; origin = origin_told i (deed_in n) } ∷ ms) ms)
  one_note Line g p n ms ys m q h r = (by_deed n.entry (deed_in n) ys (has_deed g p n m) q h, r)
  one_note Came g p n ms ys m q h r = r
  one_note Ran g p n ms ys m q h r = r
  one_note Saved g p n ms ys m q h r = r
  one_note Left g p n ms ys m q h r = r

  noted_from : (label : Label) (ss : List Seat) (ns : List Note) → IsLegalFrom label.fabric label.capacity ss ns → AreOwn all (puts ns) → AreNoted (lines_of k (told ns))
  noted_from label ss [] l h = tt
  noted_from label ss (n ∷ ns) l h = step (eqb n.entry.tenant k) refl (noted_from label (after n.entry.kind ss n) ns l.2 (rest_own (put_at n.entry.kind n) (puts ns) h))
    where
      step : (b : Bool) → eqb n.entry.tenant k ≡ b → AreNoted (lines_of k (told ns)) → AreNoted (filter (λ m. is_line m.entry.kind) (cond b (told_note n ∷ notes_of k (told ns)) (notes_of k (told ns))))
      step true e r = one_note n.entry.kind label.fabric (place_of n.entry.tenant ss) n (lines_of k (told ns)) (puts ns) l.0 e h r
      step false e r = r

-- ---- all histories

origin_at : (starts : List Start) (k : ℕ) (d : Start) → k < length starts → slice_get (origins_of starts) k ≡ Some (origin_in (get_or starts k d).transit.parcel)
origin_at [] k d l = absurd (omega (arith, l))
origin_at (s ∷ ss) zero d l = refl
origin_at (s ∷ ss) (suc k) d l = origin_at ss k d (omega (arith, l))

module _ (labels : List Label) (starts : List Start) (orders : List Order) (out : Outcome) (a : AreLabels starts labels) (h : IsOutcome labels starts orders out)
    (k : ℕ) (d : Start) (lt : k < length starts) (o : alone.Origin) (runs : RunsAs o (run_of (get_or starts k d).transit.parcel)) where
  own_named : (all : Origins) → NamesOrigins starts all → (x : Origin) → StartsFrom all k x → RunsAs o (origin_of x)
  own_named None n x e = absurd n
  own_named (Some all) n x e =
      let q = sym (origin_at starts k d lt) ∙ ap (λ (xs : List Origin). slice_get xs k) (sym n) ∙ e in
      subst (λ (y : Origin). RunsAs o (origin_of y)) (ap (λ (z : Option Origin). unwrap_or z x) q) runs

  pub noted_so : (g : ℕ) → AllByRecursion (λ m. RunsAsNoted o m.origin) (lines_of k (history_of (histories_of out.bays.items) g))
  noted_so g = by (cases_lt g (length out.bays.items))
    where
      by : (g < length out.bays.items) ⊎ (length out.bays.items ≤ g) → AllByRecursion (λ m. RunsAsNoted o m.origin) (lines_of k (history_of (histories_of out.bays.items) g))
      by (inl l) =
          let b = some_bay out.bays.items g l in
          let within : g < length labels = let n = h.all_bays in omega (arith, l, n) in
          let closed = h.bays g b.label b within in
          subst (λ ns. AllByRecursion (λ m. RunsAsNoted o m.origin) (lines_of k ns)) (sym (history_at labels starts orders out a h g b l))
          (noted_from (get_or labels g b.label).origins k o (own_named (get_or labels g b.label).origins (a g b.label within).origins)
          (get_or labels g b.label) [] (get_or out.bays.items g b).notes.items closed.legal closed.own)
      by (inr l) = subst (λ ns. AllByRecursion (λ m. RunsAsNoted o m.origin) (lines_of k ns)) (sym (history_beyond labels starts orders out a h g l)) tt
