-- What becomes of a core without one of its tenants.
use Rattle.std.proofs.Common.{◌≡◌, ℕ, suc, ◌+◌, ◌<◌, ◌≤◌, Bool, true, false, Option, Some, None, List, [], ◌∷◌, ◌++◌, length, get_or, refl, sym, ap, ◌∙◌, subst, arith, eq-eqb}
use Rattle.std.specs.Prelude.{◌&&◌, ◌||◌, ◌==◌, is_some, if◌then◌else◌, position, slice_get, slice_set, vec_len, vec_capacity}
use Rattle.std.specs.List.{remove}
use Rattle.std.proofs.lemmas.Bool.{false≢true}
use Rattle.std.proofs.lemmas.List.{append-nil, get_or-set_same}
use Rattle.std.proofs.lemmas.Option.{slice_get-get_or}
use Rattle.vl_design.specs.declared.design.End.TheVariants as end
use Rattle.fab_core.specs.ten_parcel.specs.declared.parcel.Parcel.{Parcel}
use Rattle.vl_design.specs.Alone.{first_tick}
use Rattle.fab_core.specs.ten_parcel.specs.Parcels.{is_moved, number_of, run_of, ticks_of}
use Rattle.fab_core.specs.ten_shell.specs.declared.shell.Why.{Why}
use Rattle.fab_core.specs.ten_shell.specs.declared.shell.Why.TheVariants as why
use Rattle.fab_core.specs.ten_shell.specs.Leaving.{why_in}
use Rattle.fab_core.specs.fab_model.specs.Points.{departed, due, rests, run_in, tick_of, Point}
use Rattle.fab_core.specs.fab_model.specs.Fabrics.{first_of, found, has, left, taken, without, Fabric}
use Rattle.fab_core.specs.fab_model.specs.Worlds as worlds
use Rattle.fab_core.specs.fab_model.specs.Worlds.{happens, is_at_rest, leaves, takes, Event, Take, Leave, World}
use Rattle.fab_core.specs.Standing.{IsFabric, IsPointOf}
use Rattle.fab_core.specs.fab_model.specs.declared.note.Note.{Note}
use Rattle.fab_core.specs.fab_model.specs.declared.transit.Transit.{Transit}
use Rattle.fab_core.specs.fab_model.specs.Deeds.{deed_in}
use Rattle.fab_core.specs.fab_model.specs.Ends.{EndsNotBefore}
use Rattle.fab_core.specs.fab_model.specs.Stays.{chains}
use Rattle.fab_bay.specs.declared.berth.Berth.{Berth}
use Rattle.fab_bay.specs.declared.noted.NotedCore.{NotedCore}
use Rattle.fab_bay.specs.Berths.{deed_at, AreBerths, IsBerth, IsWaiter}
use Rattle.fab_core.specs.fab_lock.specs.declared.entry.Kind.TheVariants as kind
use Rattle.fab_bay.specs.Marks.{all_called_for, is_run, leave_for, mark_of, marks, take_for, AreClosed, IsRunOf, Mark}
use Rattle.fab_bay.specs.Standing.{CanSettle, HasRoomFor, IsNoted, IsSame}
use Rattle.fab_bay.specs.Taking.{KeepsFlag, IsWithdrawn as IsTakenOut}
use Rattle.fab_bay.specs.Ways.{tokens, AreOut, Goes, IsWritten, Settles}
use Rattle.fab_core.specs.fab_lock.specs.declared.entry.Entry.{Entry}
use Rattle.fab_bay.proofs.Going.{closed-by, closed-one, closed-run}
use Rattle.fab_bay.proofs.Flags.{keeps-before, keeps_resident, keeps_waiter}
use Rattle.fab_bay.proofs.Kept.{goes_by, noted_by, out-snoc, told_of, tokens-snoc, written_of, written_then}
use Rattle.fab_bay.proofs.Leavers.{leaver_chained, leaver_end, leaver_keeps, leaver_number, leaver_order, leaver_ticks, mark_leaver, mark_out, may_leave, told_left, told_withdrawn, written_out, IsLeaver, IsOutNote}
use Rattle.fab_core.proofs.Firsts.{first-at, first-some, FirstAt}
use Rattle.fab_bay.proofs.Places.{berth-place, berths_at, berths_many, berths_remove, removed_many, some-equal, waiters_at, waiters_berths, waiters_remove, number_at}
use Rattle.fab_bay.proofs.Pointed.{tells}
use Rattle.fab_bay.proofs.Ran.{room_less}
use Rattle.fab_bay.proofs.Withdrawn.{withdrawn_by}
use Rattle.vl_design.specs.vl_base.proofs.Booleans.{never_both as none-false, or_true_right as or-last}
pub use Rattle.vl_design.specs.vl_base.proofs.Booleans.{never_both as yes-no}

-- ---- worlds

rests_due : (b : Bool) (o : Option Why) (w : Why) → (if b then o else None) ≡ Some w → b ≡ true
rests_due true o w e = refl
rests_due false o w e = let z : ⊥ = cc in absurd z

-- whoever is due to leave rests
pub rests_if : (p : Point) (w : Why) → due p ≡ Some w → rests p ≡ true
rests_if p w e = rests_due (rests p) (why_in (run_in p).plan p.stopped p.moved p.stage.state) w e

module _ (t : ℕ) (f : Fabric) (ps : List Point) (p : Point) (rest : is_at_rest f ≡ true) where
  abbrev here : World
  here = record { fabric = f; transit = ps }

  pub leave_world : (w : Why) → first_of t f.residents ≡ Some p → due p ≡ Some w → happens here (Leave t) ≡ record { fabric = left t f; transit = ps ++ departed w p ∷ [] }
  leave_world w first is =
      ap (leaves here t) first ∙ (ap (worlds.goes here t p) is ∙ ap (λ (b : Bool). if b then record { fabric = left t f; transit = ps ++ departed w p ∷ [] } else here) rest)

  pub take_world : found t f ≡ Some p → happens here (Take t) ≡ record { fabric = taken t f; transit = ps ++ p ∷ [] }
  take_world is = ap (takes here t) is ∙ ap (λ (b : Bool). if b then record { fabric = taken t f; transit = ps ++ p ∷ [] } else here) rest

  pub leave_calls : (w : Why) → first_of t f.residents ≡ Some p → due p ≡ Some w → all_called_for (Leave t ∷ []) here ≡ mark_of kind.Left p ∷ []
  leave_calls w first is =
      let one : Bool → List Mark = λ b. if b then mark_of kind.Left p ∷ [] else [] in
      ap (λ (o : Option Point). leave_for f o ++ []) first
      ∙ (ap (λ (o : Option Why). (if is_some o then take_for f (Some p) else []) ++ []) is ∙ ap (λ (b : Bool). one b ++ []) rest)

  pub take_calls : found t f ≡ Some p → all_called_for (Take t ∷ []) here ≡ mark_of kind.Left p ∷ []
  take_calls is =
      let one : Bool → List Mark = λ b. if b then mark_of kind.Left p ∷ [] else [] in
      ap (λ (o : Option Point). take_for f o ++ []) is ∙ ap (λ (b : Bool). one b ++ []) rest

-- ---- a resident whose run is noted

module _ (tenant place : ℕ) (x y : NotedCore) (b : Berth) where
  -- in x it is at a place, in y its run is noted
  pub record IsRan : Type 0 where
    pub kept : (f : Fabric) → IsNoted x f → IsNoted y f
    pub noted : (f : Fabric) (p : Point) (c : Berth) → IsFabric x.core f → slice_get f.residents place ≡ Some p → slice_get x.berths.items place ≡ Some c →
        y.berths.items ≡ slice_set x.berths.items place (record c { noted = tick_of p })
    pub found : position (λ c. c.tenant == tenant) x.berths.items ≡ Some place
    pub read : b ≡ get_or y.berths.items place b

  module _ (r : IsRan) (f : Fabric) (h : IsNoted x f) where
    pub ran_first : FirstAt tenant f.residents place
    ran_first = first-at tenant f.residents place (sym (berth-place tenant x.label.tenants x.berths.items f.residents h.residents) ∙ r.found)

    pub ran_there : place < length x.berths.items
    ran_there =
        let l = ran_first.there in
        let e = berths_many x.label.tenants x.berths.items f.residents h.residents in
        omega (arith, l, e)

    pub ran_still : place < length y.berths.items
    ran_still =
        let l = ran_first.there in
        let n = r.kept f h in
        let e = berths_many y.label.tenants y.berths.items f.residents n.residents in
        omega (arith, l, e)

    module _ (d : Point) where
      abbrev point : Point
      point = get_or f.residents place d

      pub ran_berth : IsBerth y.label.tenants b point
      ran_berth =
          let n = r.kept f h in
          subst (λ (c : Berth). IsBerth y.label.tenants c point) (sym r.read) (berths_at y.label.tenants y.berths.items f.residents place b d n.residents ran_still)

      pub ran_noted : b.noted ≡ tick_of point
      ran_noted =
          let c = get_or x.berths.items place b in
          let e = r.noted f point c h.core (slice_get-get_or f.residents place d ran_first.there) (slice_get-get_or x.berths.items place b ran_there) in
          let s = get_or-set_same x.berths.items place (record c { noted = tick_of point }) b ran_there in
          ap (λ (z : Berth). z.noted) (r.read ∙ (ap (λ (zs : List Berth). get_or zs place b) e ∙ s))

-- ---- a resident is out

module _ (k tenant place : ℕ) (x y z : NotedCore) (b : Berth) (t : Transit) (n : Note) where
  -- its note is written, and it is a resident no longer
  pub record IsOut : Type 0 where
    pub ran : IsRan tenant place x y b
    pub goes : Settles k x y []
    pub runs : marks goes.added ≡ []
    pub run : IsRunOf tenant goes.added
    pub label : z.label ≡ y.label
    pub notes : z.notes.items ≡ y.notes.items ++ n ∷ []
    pub told : z.told.items ≡ y.told.items ++ n.entry ∷ []
    pub berths : z.berths.items ≡ remove y.berths.items place
    pub waiting : z.waiting.items ≡ y.waiting.items
    pub note : IsOutNote k t n
    pub stays : t.stays.items ≡ b.stays.items ++ record { fabric = y.label.fabric; from = b.since; to = ticks_of t.parcel; by_move = b.by_move } ∷ []
    pub resident : t.resident ≡ true

  module _ (o : IsOut) where
    pub out_number : (f : Fabric) (w : Why) (d : Point) → IsNoted x f → IsLeaver w (get_or f.residents place d) t.parcel → number_of t.parcel ≡ tenant
    out_number f w d h l =
        let p = get_or f.residents place d in
        let berth = ran_berth tenant place x y b o.ran f h d in
        leaver_number y.label.tenants b p w t.parcel berth (ran_noted tenant place x y b o.ran f h d) l ∙ (berth.number ∙ number_at tenant f.residents place d (ran_first tenant place x y b o.ran f h))

    pub out_noted : (f : Fabric) (w : Why) (d : Point) → IsNoted x f → IsLeaver w (get_or f.residents place d) t.parcel → IsFabric z.core (left tenant f) → IsNoted z (left tenant f)
    out_noted f w d h l core =
        let p = get_or f.residents place d in
        let v = o.ran.kept f h in
        let berth = ran_berth tenant place x y b o.ran f h d in
        let now = ran_noted tenant place x y b o.ran f h d in
        let ticks = leaver_ticks y.label.tenants b p w t.parcel berth now l in
        let note = o.note in
        let stays : t.stays.items ≡ b.stays.items ++ record { fabric = y.label.fabric; from = b.since; to = b.noted; by_move = (deed_at b).moved } ∷ [] =
        o.stays ∙ (ap (λ (k : ℕ). b.stays.items ++ record { fabric = y.label.fabric; from = b.since; to = k; by_move = b.by_move } ∷ []) ticks
        ∙ ap (λ (m : Bool). b.stays.items ++ record { fabric = y.label.fabric; from = b.since; to = b.noted; by_move = m } ∷ []) berth.by_move) in
        let may = may_leave y.label.tenants b p w t.parcel berth now l y.label.fabric true t n.entry (deed_in n) refl stays (ap (λ e. e.from) note.entry) note.deed o.resident (λ e. absurd (false≢true (sym e))) in
        noted_by z y.label (y.notes.items ++ n ∷ []) (remove y.berths.items place) y.waiting.items (left tenant f) o.label o.notes o.berths o.waiting core v.capacity
        (subst (λ (ps : List Point). AreBerths y.label.tenants (remove y.berths.items place) ps) (sym (ran_first tenant place x y b o.ran f h).out) (berths_remove y.label.tenants y.berths.items f.residents place v.residents))
        v.line
        (told_left y.label y.notes.items n k t note y.berths.items y.waiting.items place b (ran_still tenant place x y b o.ran f h) o.ran.read (told_of y f v)
        (leaver_number y.label.tenants b p w t.parcel berth now l) ticks may)

    -- the flag of one that doesn't leave for a move
    pub out_keeps : (f : Fabric) (d : Point) (h : IsNoted x f) → IsLeaver (why.Ended end.Finished) (get_or f.residents place d) t.parcel → KeepsFlag x t
    out_keeps f d h l =
        let p = get_or f.residents place d in
        let v = o.ran.kept f h in
        let w = why.Ended end.Finished in
        let berth = ran_berth tenant place x y b o.ran f h d in
        let now = ran_noted tenant place x y b o.ran f h d in
        keeps-before k 0 x y v.legal o.goes t
        (keeps_resident y y.label y.berths.items y.waiting.items (told_of y f v) t place b (ran_still tenant place x y b o.ran f h) o.ran.read (leaver_number y.label.tenants b p w t.parcel berth now l)
        (leaver_keeps y.label.tenants b p w t.parcel berth now l end.Finished refl))

    pub out_withdrawn : (f : Fabric) (d : Point) (h : IsNoted x f) → IsLeaver (why.Ended end.Finished) (get_or f.residents place d) t.parcel → IsTakenOut t
    out_withdrawn f d h l =
        withdrawn_by y.label.tenants b (get_or f.residents place d) t (ran_berth tenant place x y b o.ran f h d) (ran_noted tenant place x y b o.ran f h d) l (λ r. (y.label.fabric, o.stays))

    pub out_written : (f : Fabric) (w : Why) (d : Point) → IsNoted x f → IsLeaver w (get_or f.residents place d) t.parcel → IsWritten k x z (tokens (t ∷ [])) (mark_out t ∷ [])
    out_written f w d h l =
        let p = get_or f.residents place d in
        let berth = ran_berth tenant place x y b o.ran f h d in
        let now = ran_noted tenant place x y b o.ran f h d in
        let few = subst (λ (j : ℕ). j < y.label.tenants) (sym (leaver_number y.label.tenants b p w t.parcel berth now l)) berth.few in
        written_then k x y z [] (tokens (t ∷ [])) [] (mark_out t ∷ []) (written_of k x y o.goes o.runs) (written_out y.label y.notes.items n k t o.note y z o.label o.notes o.told few)

    pub out_closed : (f : Fabric) (w : Why) (d : Point) → IsNoted x f → IsLeaver w (get_or f.residents place d) t.parcel → (added : List Note) → z.notes.items ≡ x.notes.items ++ added → AreClosed added
    out_closed f w d h l added e =
        closed-by x.notes.items y.notes.items z.notes.items o.goes.added (n ∷ []) added o.goes.notes o.notes e
        (closed-run tenant o.goes.added n o.run (ap (λ (a : Entry). a.tenant) o.note.entry ∙ out_number f w d h l) (ap (λ (a : Entry). is_run a.kind) o.note.entry))

-- what is known of a fabric from which a tenant comes out
pub record IsGone (tenant : ℕ) (e : Event) (z : NotedCore) (t : Transit) (f : Fabric) : Type 0 where
  pub fabric : Fabric
  pub point : Point
  pub noted : IsNoted z fabric
  pub at : IsPointOf t.parcel point
  pub world : (ps : List Point) → happens (record { fabric = f; transit = ps }) e ≡ record { fabric = fabric; transit = ps ++ point ∷ [] }
  pub calls : (ps : List Point) → mark_out t ∷ [] ≡ all_called_for (e ∷ []) (record { fabric = f; transit = ps })

-- the event at which a tenant comes out, of which no more is asked
pub goes_gone_leave : (k tenant : ℕ) (x z : NotedCore) (t : Transit) (out : List Transit) → IsWritten k x z (tokens (t ∷ [])) (mark_out t ∷ []) → ((added : List Note) → z.notes.items ≡ x.notes.items ++ added → AreClosed added)
    → ((f : Fabric) → IsNoted x f → IsGone tenant (Leave tenant) z t f)
    → Goes k 0 x z out (out ++ t ∷ [])
goes_gone_leave k tenant x z t out w closed each =
    goes_by k 0 x z out (out ++ t ∷ []) (tokens (t ∷ [])) (mark_out t ∷ []) (Leave tenant ∷ []) w closed (tokens-snoc out t) refl
    (λ f ps h o. let g = each f h in
    subst (λ (v : World). IsNoted z v.fabric × AreOut (out ++ t ∷ []) v.transit) (sym (g.world ps)) (g.noted, out-snoc out t ps g.point o (g.at, tt)))
    (λ f ps h o. (tt, tt))
    (λ f ps h o. (each f h).calls ps)

pub goes_gone_take : (k tenant : ℕ) (x z : NotedCore) (t : Transit) (out : List Transit) → IsWritten k x z (tokens (t ∷ [])) (mark_out t ∷ []) → ((added : List Note) → z.notes.items ≡ x.notes.items ++ added → AreClosed added)
    → ((f : Fabric) → IsNoted x f → IsGone tenant (Take tenant) z t f)
    → Goes k 0 x z out (out ++ t ∷ [])
goes_gone_take k tenant x z t out w closed each =
    goes_by k 0 x z out (out ++ t ∷ []) (tokens (t ∷ [])) (mark_out t ∷ []) (Take tenant ∷ []) w closed (tokens-snoc out t) refl
    (λ f ps h o. let g = each f h in
    subst (λ (v : World). IsNoted z v.fabric × AreOut (out ++ t ∷ []) v.transit) (sym (g.world ps)) (g.noted, out-snoc out t ps g.point o (g.at, tt)))
    (λ f ps h o. (tt, tt))
    (λ f ps h o. (each f h).calls ps)

-- ---- the three ways

module _ (k tenant place : ℕ) (x y z : NotedCore) (b : Berth) (t : Transit) (n : Note) (o : IsOut k tenant place x y z b t n) (f : Fabric) (h : IsNoted x f) (rest : is_at_rest f ≡ true) where
  -- it is due to leave
  pub gone_leave : (w : Why) (p : Point) → first_of tenant f.residents ≡ Some p → due p ≡ Some w → IsPointOf t.parcel (departed w p) → IsFabric z.core (left tenant f) → IsGone tenant (Leave tenant) z t f
  gone_leave w p first is at core =
      let same : p ≡ get_or f.residents place p = some-equal p (get_or f.residents place p) (sym first ∙ (ran_first tenant place x y b o.ran f h).first p) in
      let l : IsLeaver w p t.parcel = record { at = at; rests = rests_if p w is; move = λ to e. is } in
      record {
        fabric = left tenant f;
        point = departed w p;
        noted = out_noted k tenant place x y z b t n o f w p h (subst (λ (q : Point). IsLeaver w q t.parcel) same l) core;
        at = at;
        world = λ ps. leave_world tenant f ps p rest w first is;
        calls = λ ps. ap (λ (m : Mark). m ∷ []) (mark_leaver w p t at (rests_if p w is)) ∙ sym (leave_calls tenant f ps p rest w first is);
      }

  pub taken_here : taken tenant f ≡ left tenant f
  taken_here =
      ap (λ (b : Bool). if b then left tenant f else record f { line = without tenant f.line })
      (ap is_some ((ran_first tenant place x y b o.ran f h).first (first_point f.residents (ran_first tenant place x y b o.ran f h).there)))
    where
      first_point : (ps : List Point) → place < length ps → Point
      first_point [] l = absurd (omega arith)
      first_point (p ∷ ps) l = p

  found_here : (d : Point) → found tenant f ≡ Some (get_or f.residents place d)
  found_here d =
      let e = (ran_first tenant place x y b o.ran f h).first d in
      ap (λ (b : Bool). if b then first_of tenant f.residents else first_of tenant f.line) (ap is_some e) ∙ e

  abbrev no_why : Why
  no_why = why.Ended end.Finished

  pub taker : (p : Point) → found tenant f ≡ Some p → IsPointOf t.parcel p → IsLeaver no_why (get_or f.residents place p) t.parcel
  taker p is at =
      let same : p ≡ get_or f.residents place p = some-equal p (get_or f.residents place p) (sym is ∙ found_here p) in
      let l : IsLeaver no_why p t.parcel = record { at = at; rests = (tells t.parcel p at).rests; move = λ to e. let z : ⊥ = cc in absurd z } in
      subst (λ (q : Point). IsLeaver no_why q t.parcel) same l

  -- it is taken
  pub gone_take : (p : Point) → found tenant f ≡ Some p → IsPointOf t.parcel p → IsFabric z.core (taken tenant f) → IsGone tenant (Take tenant) z t f
  gone_take p is at core = record {
    fabric = taken tenant f;
    point = p;
    noted =
        subst (λ (g : Fabric). IsNoted z g) (sym taken_here)
        (out_noted k tenant place x y z b t n o f no_why p h (taker p is at) (subst (λ (g : Fabric). IsFabric z.core g) taken_here core));
    at = at;
    world = λ ps. take_world tenant f ps p rest is;
    calls = λ ps. ap (λ (m : Mark). m ∷ []) (mark_leaver no_why p t at (tells t.parcel p at).rests) ∙ sym (take_calls tenant f ps p rest is);
  }

-- ---- one in line is out

module _ (k tenant place : ℕ) (x z : NotedCore) (b : Berth) (t : Transit) (n : Note) where
  -- its note is written, and it is in line no longer
  pub record IsWithdrawn : Type 0 where
    pub none : position (λ c. c.tenant == tenant) x.berths.items ≡ None
    pub there : position (λ c. c.tenant == tenant) x.waiting.items ≡ Some place
    pub read : b ≡ get_or x.waiting.items place b
    pub label : z.label ≡ x.label
    pub notes : z.notes.items ≡ x.notes.items ++ n ∷ []
    pub told : z.told.items ≡ x.told.items ++ n.entry ∷ []
    pub berths : z.berths.items ≡ x.berths.items
    pub waiting : z.waiting.items ≡ remove x.waiting.items place
    pub note : IsOutNote k t n
    pub stays : t.stays.items ≡ b.stays.items
    pub resident : t.resident ≡ false

module _ (tenant place : ℕ) (x : NotedCore) (b : Berth) (none : position (λ c. c.tenant == tenant) x.berths.items ≡ None) (some : position (λ c. c.tenant == tenant) x.waiting.items ≡ Some place)
    (read : b ≡ get_or x.waiting.items place b) (f : Fabric) (h : IsNoted x f) where
  pub line_first : FirstAt tenant f.line place
  line_first = first-at tenant f.line place (sym (berth-place tenant x.label.tenants x.waiting.items f.line (waiters_berths x.label.tenants x.waiting.items f.line h.line)) ∙ some)

  pub line_there : place < length x.waiting.items
  line_there =
      let l = line_first.there in
      let e = berths_many x.label.tenants x.waiting.items f.line (waiters_berths x.label.tenants x.waiting.items f.line h.line) in
      omega (arith, l, e)

  pub line_waiter : (d : Point) → IsWaiter x.label.tenants b (get_or f.line place d)
  line_waiter d = subst (λ (c : Berth). IsWaiter x.label.tenants c (get_or f.line place d)) (sym read) (waiters_at x.label.tenants x.waiting.items f.line place b d h.line line_there)

  no_resident : is_some (first_of tenant f.residents) ≡ false
  no_resident =
      sym (first-some tenant f.residents)
      ∙ ap is_some (sym (berth-place tenant x.label.tenants x.berths.items f.residents h.residents) ∙ none)

  pub taken_line : taken tenant f ≡ record f { line = remove f.line place }
  taken_line =
      ap (λ (b : Bool). if b then record f { residents = without tenant f.residents } else record f { line = without tenant f.line }) no_resident
      ∙ ap (λ (ps : List Point). record f { line = ps }) line_first.out

  found_line : (d : Point) → found tenant f ≡ Some (get_or f.line place d)
  found_line d = ap (λ (b : Bool). if b then first_of tenant f.residents else first_of tenant f.line) no_resident ∙ line_first.first d

  pub line_taker : (q : Parcel) (p : Point) → found tenant f ≡ Some p → IsPointOf q p → IsLeaver (why.Ended end.Finished) (get_or f.line place p) q
  line_taker q p is at =
      let same : p ≡ get_or f.line place p = some-equal p (get_or f.line place p) (sym is ∙ found_line p) in
      let l : IsLeaver (why.Ended end.Finished) p q = record { at = at; rests = (tells q p at).rests; move = λ to e. let z : ⊥ = cc in absurd z } in
      subst (λ (y : Point). IsLeaver (why.Ended end.Finished) y q) same l

module _ (k tenant place : ℕ) (x z : NotedCore) (b : Berth) (t : Transit) (n : Note) (o : IsWithdrawn k tenant place x z b t n) (f : Fabric) (h : IsNoted x f) (p : Point)
    (is : found tenant f ≡ Some p) (at : IsPointOf t.parcel p) where
  abbrev ended_why : Why
  ended_why = why.Ended end.Finished

  waiter : IsWaiter x.label.tenants b (get_or f.line place p)
  waiter = line_waiter tenant place x b o.none o.there o.read f h p

  taker_line : IsLeaver ended_why (get_or f.line place p) t.parcel
  taker_line = line_taker tenant place x b o.none o.there o.read f h t.parcel p is at

  pub withdrawn_number : number_of t.parcel ≡ tenant
  withdrawn_number =
      leaver_number x.label.tenants b (get_or f.line place p) ended_why t.parcel waiter.berth waiter.noted taker_line
      ∙ (waiter.berth.number ∙ number_at tenant f.line place p (line_first tenant place x b o.none o.there o.read f h))

  pub withdrawn_keeps : KeepsFlag x t
  withdrawn_keeps =
      let q : Point = get_or f.line place p in
      keeps_waiter x x.label x.berths.items x.waiting.items (told_of x f h) t place b (line_there tenant place x b o.none o.there o.read f h) o.read
      (leaver_number x.label.tenants b q ended_why t.parcel waiter.berth waiter.noted taker_line) (leaver_keeps x.label.tenants b q ended_why t.parcel waiter.berth waiter.noted taker_line end.Finished refl)

  pub withdrawn_out : IsTakenOut t
  withdrawn_out = withdrawn_by x.label.tenants b (get_or f.line place p) t waiter.berth waiter.noted taker_line (λ r. absurd (false≢true (sym o.resident ∙ r)))

  -- it leaves where it was put in line, with the flag with which it was
  same_flag : is_moved t.parcel ≡ (deed_at b).moved
  same_flag =
      let q : Point = get_or f.line place p in
      let ticks = leaver_ticks x.label.tenants b q ended_why t.parcel waiter.berth waiter.noted taker_line in
      leaver_keeps x.label.tenants b q ended_why t.parcel waiter.berth waiter.noted taker_line end.Finished refl
      ∙ ap (λ (v : Bool). v && (deed_at b).moved) (eq-eqb (ticks_of t.parcel) b.since (ticks ∙ (waiter.noted ∙ sym waiter.since)))

  pub withdrawn_written : IsWritten k x z (tokens (t ∷ [])) (mark_out t ∷ [])
  withdrawn_written =
      let few = subst (λ (j : ℕ). j < x.label.tenants) (sym (leaver_number x.label.tenants b (get_or f.line place p) ended_why t.parcel waiter.berth waiter.noted taker_line)) waiter.berth.few in
      written_out x.label x.notes.items n k t o.note x z o.label o.notes o.told few

  pub withdrawn_closed : (added : List Note) → z.notes.items ≡ x.notes.items ++ added → AreClosed added
  withdrawn_closed added e =
      closed-by x.notes.items x.notes.items z.notes.items [] (n ∷ []) added (sym (append-nil x.notes.items)) o.notes e (closed-one n (ap (λ (a : Entry). is_run a.kind) o.note.entry))

  pub gone_line : is_at_rest f ≡ true → IsFabric z.core (taken tenant f) → IsGone tenant (Take tenant) z t f
  gone_line rest core =
      let e = taken_line tenant place x b o.none o.there o.read f h in
      let q : Point = get_or f.line place p in
      let ticks = leaver_ticks x.label.tenants b q ended_why t.parcel waiter.berth waiter.noted taker_line in
      let note = o.note in
      let stays : t.stays.items ≡ b.stays.items ++ [] = o.stays ∙ sym (append-nil b.stays.items) in
      let may = may_leave x.label.tenants b q ended_why t.parcel waiter.berth waiter.noted taker_line x.label.fabric false t n.entry (deed_in n) refl stays (ap (λ y. y.from) note.entry) note.deed o.resident (λ e. same_flag) in
      record {
        fabric = taken tenant f;
        point = p;
        noted =
            subst (λ (g : Fabric). IsNoted z g) (sym e)
            (noted_by z x.label (x.notes.items ++ n ∷ []) x.berths.items (remove x.waiting.items place) (record f { line = remove f.line place }) o.label o.notes o.berths o.waiting
            (subst (λ (g : Fabric). IsFabric z.core g) e core) h.capacity h.residents (waiters_remove x.label.tenants x.waiting.items f.line place h.line)
            (told_withdrawn x.label x.notes.items n k t note x.berths.items x.waiting.items place b (line_there tenant place x b o.none o.there o.read f h) o.read (told_of x f h)
            (leaver_number x.label.tenants b q ended_why t.parcel waiter.berth waiter.noted taker_line) ticks may));
        at = at;
        world = λ ps. take_world tenant f ps p rest is;
        calls = λ ps. ap (λ (m : Mark). m ∷ []) (mark_leaver ended_why p t at (tells t.parcel p at).rests) ∙ sym (take_calls tenant f ps p rest is);
      }

-- ---- what the code needs

-- a berth from which a tenant leaves
pub record IsReady (b : Berth) (q : Parcel) : Type 0 where
  pub order : b.since ≤ ticks_of q
  pub chained : chains (first_tick (run_of q).resume) b.stays.items b.since ≡ true
  pub end : EndsNotBefore (run_of q) (ticks_of q)
  pub room : vec_len b.stays < vec_capacity b.stays

pub ready_of : (n : ℕ) (b : Berth) (p : Point) (w : Why) (q : Parcel) → IsBerth n b p → b.noted ≡ tick_of p → IsLeaver w p q → IsReady b q
ready_of n b p w q h now l = record { order = leaver_order n b p w q h now l; chained = leaver_chained n b p w q h now l; end = leaver_end n b p w q h now l; room = h.room }

-- the place of a resident
pub place_first : (tenant place : ℕ) (x : NotedCore) (f : Fabric) → position (λ c. c.tenant == tenant) x.berths.items ≡ Some place → IsNoted x f → FirstAt tenant f.residents place
place_first tenant place x f e h = first-at tenant f.residents place (sym (berth-place tenant x.label.tenants x.berths.items f.residents h.residents) ∙ e)

pub place_there : (tenant place : ℕ) (x : NotedCore) (f : Fabric) → position (λ c. c.tenant == tenant) x.berths.items ≡ Some place → IsNoted x f → place < length x.berths.items
place_there tenant place x f e h =
    let l = (place_first tenant place x f e h).there in
    let m = berths_many x.label.tenants x.berths.items f.residents h.residents in
    omega (arith, l, m)

-- whoever is among the residents has a place
pub place_some : (tenant : ℕ) (x : NotedCore) (f : Fabric) (p : Point) → position (λ c. c.tenant == tenant) x.berths.items ≡ None → IsNoted x f → first_of tenant f.residents ≡ Some p → ⊥
place_some tenant x f p e h first =
    none-false (is_some (first_of tenant f.residents)) (ap is_some first)
    (sym (first-some tenant f.residents) ∙ ap is_some (sym (berth-place tenant x.label.tenants x.berths.items f.residents h.residents) ∙ e))

or-by : (a b : Bool) → (a || b) ≡ true → a ≡ false → b ≡ false → ⊥
or-by true b e f g = cc
or-by false b e f g = cc

-- whoever is there has a place among the residents or in line
pub place_either : (tenant : ℕ) (x : NotedCore) (f : Fabric) → position (λ c. c.tenant == tenant) x.berths.items ≡ None → position (λ c. c.tenant == tenant) x.waiting.items ≡ None → IsNoted x f → has tenant f ≡ true → ⊥
place_either tenant x f e i h there =
    or-by (is_some (first_of tenant f.residents)) (is_some (first_of tenant f.line)) there
    (sym (first-some tenant f.residents) ∙ ap is_some (sym (berth-place tenant x.label.tenants x.berths.items f.residents h.residents) ∙ e))
    (sym (first-some tenant f.line) ∙ ap is_some (sym (berth-place tenant x.label.tenants x.waiting.items f.line (waiters_berths x.label.tenants x.waiting.items f.line h.line)) ∙ i))

pub has_resident : (tenant place : ℕ) (x : NotedCore) (f : Fabric) → position (λ c. c.tenant == tenant) x.berths.items ≡ Some place → IsNoted x f → has tenant f ≡ true
has_resident tenant place x f e h =
    ap (λ (b : Bool). b || is_some (first_of tenant f.line))
    (sym (first-some tenant f.residents) ∙ ap is_some (sym (berth-place tenant x.label.tenants x.berths.items f.residents h.residents) ∙ e))

pub has_waiter : (tenant place : ℕ) (x : NotedCore) (f : Fabric) → position (λ c. c.tenant == tenant) x.waiting.items ≡ Some place → IsNoted x f → has tenant f ≡ true
has_waiter tenant place x f e h =
    ap (λ (b : Bool). is_some (first_of tenant f.residents) || b)
    (sym (first-some tenant f.line) ∙ ap is_some (sym (berth-place tenant x.label.tenants x.waiting.items f.line (waiters_berths x.label.tenants x.waiting.items f.line h.line)) ∙ e))
    ∙ or-last (is_some (first_of tenant f.residents))

-- ---- room

pub room_kept : (n : ℕ) (x y : NotedCore) → IsSame x y → HasRoomFor (length x.berths.items + n) y → HasRoomFor (length y.berths.items + n) y
room_kept n x y s r = subst (λ (k : ℕ). HasRoomFor (k + n) y) (ap (λ v. length v.items) (sym s.berths)) r

pub room_same : (x y : NotedCore) → IsSame x y → ((n : ℕ) → HasRoomFor n x → HasRoomFor n y) → CanSettle x → CanSettle y
room_same x y s k r = subst (λ (n : ℕ). HasRoomFor n y) (ap (λ v. length v.items) (sym s.berths)) (k (length x.berths.items) r)

-- with one resident fewer and one note more
pub room_left : (x y z : NotedCore) (place : ℕ) → place < length y.berths.items → length y.berths.items ≡ length x.berths.items → z.berths.items ≡ remove y.berths.items place
    → HasRoomFor (length x.berths.items + 1) y → ((n : ℕ) → HasRoomFor (suc n) y → HasRoomFor n z) → CanSettle z
room_left x y z place lt many is r k =
    let e = removed_many y.berths.items place lt in
    let l = ap length is in
    k (length z.berths.items) (room_less (suc (length z.berths.items)) (length x.berths.items + 1) y (omega (arith, e, l, many)) r)

-- with as many residents, and one note more
pub room_stays : (x z : NotedCore) → z.berths.items ≡ x.berths.items → HasRoomFor (length x.berths.items + 2) x → ((n : ℕ) → HasRoomFor (suc n) x → HasRoomFor n z) → CanSettle z
room_stays x z is r k =
    let l = ap length is in
    k (length z.berths.items) (room_less (suc (length z.berths.items)) (length x.berths.items + 2) x (omega (arith, l)) r)

-- ---- whoever is taken from the residents

pub found_place : (tenant place : ℕ) (x : NotedCore) (f : Fabric) → position (λ c. c.tenant == tenant) x.berths.items ≡ Some place → IsNoted x f → (d : Point) → found tenant f ≡ Some (get_or f.residents place d)
found_place tenant place x f e h d =
    let i = (place_first tenant place x f e h).first d in
    ap (λ (b : Bool). if b then first_of tenant f.residents else first_of tenant f.line) (ap is_some i) ∙ i

abbrev pub for_none : Why
for_none = why.Ended end.Finished

pub taker_of : (tenant place : ℕ) (x : NotedCore) (f : Fabric) → position (λ c. c.tenant == tenant) x.berths.items ≡ Some place → IsNoted x f → (q : Parcel) (p : Point) → found tenant f ≡ Some p → IsPointOf q p
    → IsLeaver for_none (get_or f.residents place p) q
taker_of tenant place x f e h q p is at =
    let same : p ≡ get_or f.residents place p = some-equal p (get_or f.residents place p) (sym is ∙ found_place tenant place x f e h p) in
    let l : IsLeaver for_none p q = record { at = at; rests = (tells q p at).rests; move = λ to z. let w : ⊥ = cc in absurd w } in
    subst (λ (s : Point). IsLeaver for_none s q) same l

pub waiter_there : (tenant place : ℕ) (x : NotedCore) (f : Fabric) → position (λ c. c.tenant == tenant) x.waiting.items ≡ Some place → IsNoted x f → place < length x.waiting.items
waiter_there tenant place x f e h =
    let w = waiters_berths x.label.tenants x.waiting.items f.line h.line in
    let l = (first-at tenant f.line place (sym (berth-place tenant x.label.tenants x.waiting.items f.line w) ∙ e)).there in
    let m = berths_many x.label.tenants x.waiting.items f.line w in
    omega (arith, l, m)
