-- A tenant that comes out.
use Rattle.std.proofs.Common.{◌≡◌, ℕ, suc, ◌<◌, ◌≤◌, Bool, true, false, Option, Some, None, List, [], ◌∷◌, ◌++◌, length, get_or, take, drop, map, refl, sym, ap, ap₂, ◌∙◌, subst, append_assoc, arith, eq-eqb}
use Rattle.std.specs.Prelude.{◌&&◌, ◌==◌, is_some, nat_le, if◌then◌else◌}
use Rattle.std.specs.List.{remove}
use Rattle.std.proofs.lemmas.Bool.{eqb-true, le-leb}
use Rattle.std.proofs.lemmas.List.{map-append}
use Rattle.vl_design.specs.declared.design.End.{End}
use Rattle.vl_design.specs.Alone as alone
use Rattle.vl_design.specs.Alone.{first_tick}
use Rattle.fab_core.specs.fab_lock.specs.declared.entry.Entry.{Entry}
use Rattle.fab_core.specs.fab_lock.specs.declared.entry.Kind.{Kind}
use Rattle.fab_core.specs.fab_lock.specs.declared.entry.Kind.TheVariants.{Left}
use Rattle.ten_core.specs.declared.origin.Origin.{Origin}
use Rattle.ten_core.specs.Tenants.{origin_of}
use Rattle.fab_core.specs.ten_parcel.specs.declared.parcel.Parcel.{Parcel}
use Rattle.fab_core.specs.ten_parcel.specs.Parcels.{free_of, is_moved, number_of, origin_in, run_of, ticks_of}
use Rattle.ten_core.specs.ten_plan.specs.Plans.{move_at}
use Rattle.fab_core.specs.ten_shell.specs.declared.shell.Why.{Why}
use Rattle.fab_core.specs.ten_shell.specs.declared.shell.Why.TheVariants as why
use Rattle.fab_core.specs.ten_shell.specs.Leaving.{end_in, why_in, why_of}
use Rattle.fab_core.specs.fab_model.specs.Points.{departed, due, ended, is_there, rests, run_in, tick_of, Point}
use Rattle.fab_core.specs.Standing.{IsPointOf}
use Rattle.fab_core.specs.fab_model.specs.declared.note.Note.{Note}
use Rattle.fab_core.specs.fab_model.specs.declared.transit.Stay.{Stay}
use Rattle.fab_core.specs.fab_model.specs.declared.transit.Transit.{Transit}
use Rattle.fab_core.specs.fab_model.specs.Deeds as deeds
use Rattle.fab_core.specs.fab_model.specs.Deeds.{deed_in, deed_of, Deed}
use Rattle.fab_core.specs.fab_model.specs.Ends.{EndsNotBefore}
use Rattle.fab_core.specs.fab_model.specs.Histories as histories
use Rattle.fab_core.specs.fab_model.specs.Histories.{is_done, place_of, replay, stay_now, Inside, May, MayLeave, Place, Seat}
use Rattle.fab_core.specs.fab_model.specs.Stays.{chains, is_idle}
use Rattle.fab_core.specs.fab_model.specs.Tokens.{out_at, put_at, told}
use Rattle.fab_bay.specs.declared.berth.Berth.{Berth}
use Rattle.fab_bay.specs.declared.leaving.Leaving.{Leaving}
use Rattle.fab_bay.specs.Ways.{is_move, IsLast}
use Rattle.fab_bay.specs.declared.noted.Label.{Label}
use Rattle.fab_bay.specs.declared.noted.NotedCore.{NotedCore}
use Rattle.fab_bay.specs.Berths.{begun, deed_at, seat, seats, IsBerth}
use Rattle.fab_bay.specs.Marks.{mark_at, mark_of, Mark}
use Rattle.fab_bay.specs.Ways.{tokens, IsWritten}
use Rattle.fab_bay.proofs.Kept.{told_next, written_one, IsTold}
use Rattle.fab_bay.proofs.Places.{split_at}
use Rattle.fab_bay.proofs.Pointed.{tells, tick_there, Tells}
use Rattle.fab_core.specs.fab_model.proofs.Seats.{apart_legal, place_mid, without_mid, AreApart}
use Rattle.vl_design.specs.vl_base.proofs.Booleans.{and_parts as split_and, and_both as both}

-- ---- one stay more

pub chains-snoc : (s k : ℕ) (xs : List Stay) (x : Stay) → chains s xs k ≡ true → x.from ≡ k → x.from ≤ x.to → chains s (xs ++ x ∷ []) x.to ≡ true
chains-snoc s k [] x c e l =
    both (x.from == s) (nat_le x.from x.to && (x.to == x.to)) (eq-eqb x.from s (e ∙ sym (eqb-true s k c)))
    (both (nat_le x.from x.to) (x.to == x.to) (le-leb x.from x.to l) (eq-eqb x.to x.to refl))
chains-snoc s k (y ∷ ys) x c e l =
    let a = split_and (y.from == s) (nat_le y.from y.to && chains y.to ys k) c in
    let b = split_and (nat_le y.from y.to) (chains y.to ys k) a.1 in
    both (y.from == s) (nat_le y.from y.to && chains y.to (ys ++ x ∷ []) x.to) a.0
    (both (nat_le y.from y.to) (chains y.to (ys ++ x ∷ []) x.to) b.0 (chains-snoc y.to k ys x b.1 e l))

-- ---- how it leaves

-- the point of a tenant that leaves, and the move of its boundary where it leaves for that
pub record IsLeaver (w : Why) (p : Point) (q : Parcel) : Type 0 where
  pub at : IsPointOf q (departed w p)
  pub rests : rests p ≡ true
  pub move : (to : ℕ) → w ≡ why.Move to → due p ≡ Some w

begun_same : (w : Why) (p : Point) → begun (departed w p) ≡ begun p
begun_same (why.Move to) p = refl
begun_same (why.Ended e) p = refl

origin_same : (w : Why) (p : Point) → (departed w p).origin ≡ p.origin
origin_same (why.Move to) p = refl
origin_same (why.Ended e) p = refl

free_same : (w : Why) (p : Point) → (departed w p).free ≡ p.free
free_same (why.Move to) p = refl
free_same (why.Ended e) p = refl

pub number_same : (w : Why) (p : Point) → (departed w p).number ≡ p.number
number_same (why.Move to) p = refl
number_same (why.Ended e) p = refl

moved_stays : (w : Why) (p : Point) → p.moved ≡ true → (departed w p).moved ≡ true
moved_stays (why.Move to) p e = refl
moved_stays (why.Ended e) p h = h

why_moves : (e : Option End) (to : Option ℕ) (moved : Bool) (k : ℕ) → why_of e to moved ≡ Some (why.Move k) → is_some to ≡ true
why_moves (Some end) to moved k h = let z : ⊥ = cc in absurd z
why_moves None (Some f) moved k h = refl
why_moves None None moved k h = let z : ⊥ = cc in absurd z

due_moves : (p : Point) (k : ℕ) → rests p ≡ true → due p ≡ Some (why.Move k) → is_some (move_at (begun p) (run_in p).plan.errands) ≡ true
due_moves p k r e =
    why_moves (end_in (run_in p).plan p.stopped p.stage.state) (move_at (begun p) (run_in p).plan.errands) p.moved k
    (sym (ap (λ (b : Bool). if b then why_in (run_in p).plan p.stopped p.moved p.stage.state else None) r) ∙ e)

why_unmoved : (e : Option End) (to : Option ℕ) (moved : Bool) (k : ℕ) → why_of e to moved ≡ Some (why.Move k) → moved ≡ false
why_unmoved (Some end) to moved k h = let z : ⊥ = cc in absurd z
why_unmoved None (Some f) true k h = let z : ⊥ = cc in absurd z
why_unmoved None (Some f) false k h = refl
why_unmoved None None moved k h = let z : ⊥ = cc in absurd z

-- whoever leaves for a move hasn't done it yet
due_unmoved : (p : Point) (k : ℕ) → rests p ≡ true → due p ≡ Some (why.Move k) → p.moved ≡ false
due_unmoved p k r e =
    why_unmoved (end_in (run_in p).plan p.stopped p.stage.state) (move_at (begun p) (run_in p).plan.errands) p.moved k
    (sym (ap (λ (b : Bool). if b then why_in (run_in p).plan p.stopped p.moved p.stage.state else None) r) ∙ e)

-- whoever leaves because its run has ended has ended
why_ended : (e : Option End) (to : Option ℕ) (moved : Bool) (x : End) → why_of e to moved ≡ Some (why.Ended x) → e ≡ None → ⊥
why_ended (Some end) to moved x h k = cc
why_ended None (Some f) true x h k = cc
why_ended None (Some f) false x h k = cc
why_ended None None moved x h k = cc

due_ended : (p : Point) (x : End) → rests p ≡ true → due p ≡ Some (why.Ended x) → ended p ≡ None → ⊥
due_ended p x r e =
    why_ended (ended p) (move_at (begun p) (run_in p).plan.errands) p.moved x
    (sym (ap (λ (b : Bool). if b then why_in (run_in p).plan p.stopped p.moved p.stage.state else None) r) ∙ e)

-- a move was done before, or it stands there
moved_by : (w : Why) (p : Point) (A : Type 0) → rests p ≡ true → ((to : ℕ) → w ≡ why.Move to → due p ≡ Some w) → (departed w p).moved ≡ true
    → (p.moved ≡ true → A) → (is_some (move_at (begun p) (run_in p).plan.errands) ≡ true → A) → A
moved_by (why.Move to) p A r d e f g = g (due_moves p to r (d to refl))
moved_by (why.Ended x) p A r d e f g = f e

module _ (n : ℕ) (b : Berth) (p : Point) (w : Why) (q : Parcel) (h : IsBerth n b p) (now : b.noted ≡ tick_of p) (l : IsLeaver w p q) where
  tell : Tells q (departed w p)
  tell = tells q (departed w p) l.at

  pub leaver_ticks : ticks_of q ≡ b.noted
  leaver_ticks = tell.ticks ∙ (begun_same w p ∙ (sym (tick_there p l.rests) ∙ sym now))

  pub leaver_number : number_of q ≡ b.tenant
  leaver_number = tell.number ∙ (number_same w p ∙ sym h.number)

  leaver_run : run_of q ≡ run_in p
  leaver_run = ap origin_of (tell.origin ∙ origin_same w p)

  -- what the code needs of it
  pub leaver_order : b.since ≤ ticks_of q
  leaver_order = let o = h.order in let t = leaver_ticks in omega (arith, o.0, t)

  pub leaver_chained : chains (first_tick (run_of q).resume) b.stays.items b.since ≡ true
  leaver_chained = subst (λ (o : alone.Origin). chains (first_tick o.resume) b.stays.items b.since ≡ true) (sym leaver_run) h.chained

  pub leaver_end : EndsNotBefore (run_of q) (ticks_of q)
  leaver_end =
      subst (λ (o : alone.Origin). EndsNotBefore o (ticks_of q)) (sym leaver_run)
      (subst (λ (k : ℕ). EndsNotBefore (run_in p) k) (sym (tell.ticks ∙ begun_same w p)) h.end)

  done_by : (x : Bool) → is_there p ≡ x → is_done b.since b.noted (deed_at b) ≡ true → p.moved ≡ true
  done_by true t d =
      let s = split_and (b.noted == b.since) (deed_at b).moved d in
      h.done t (sym now ∙ eqb-true b.noted b.since s.0) s.1
  done_by false t d =
      let s = split_and (b.noted == b.since) (deed_at b).moved d in
      let e = eqb-true b.noted b.since s.0 in
      let late = h.later t in
      let tick = tick_there p l.rests in
      let z : ⊥ = omega (arith, e, late, tick, now) in absurd z

  -- its last stay
  abbrev here : ℕ → Stay
  here g = record { fabric = g; from = b.since; to = ticks_of q; by_move = b.by_move }

  -- it came by the move of the tick at which it leaves just where that is done
  pub idle_is : (g : ℕ) → is_idle (here g) ≡ p.moved
  idle_is g = by p.moved refl
    where
      none : (m : Bool) → p.moved ≡ false → is_idle (here g) ≡ m → is_idle (here g) ≡ false
      none false e i = i
      none true e i =
          let s = split_and (ticks_of q == b.since) b.by_move i in
          let at : b.noted ≡ b.since = sym leaver_ticks ∙ eqb-true (ticks_of q) b.since s.0 in
          let d : is_done b.since b.noted (deed_at b) ≡ true = both (b.noted == b.since) (deed_at b).moved (eq-eqb b.noted b.since at) (sym h.by_move ∙ s.1) in
          let m = done_by (is_there p) refl d in
          let z : ⊥ = cc in absurd z

      by : (m : Bool) → p.moved ≡ m → is_idle (here g) ≡ m
      by true e = let y = h.moved e in both (ticks_of q == b.since) b.by_move (eq-eqb (ticks_of q) b.since (leaver_ticks ∙ (now ∙ y.1))) (h.by_move ∙ y.2)
      by false e = none (is_idle (here g)) e refl

  -- whose run has ended hasn't done the move that stands there
  over_unmoved : (end : End) → due p ≡ Some (why.Ended end) → p.moved ≡ false
  over_unmoved end d = by p.moved refl
    where
      by : (m : Bool) → p.moved ≡ m → m ≡ false
      by true e = absurd (due_ended p end l.rests d (h.lively e))
      by false e = refl

  flag_is : (x : Why) → w ≡ x → due p ≡ Some w → is_moved q ≡ is_move x
  flag_is (why.Move to) e d = tell.moved ∙ ap (λ (v : Why). (departed v p).moved) e
  flag_is (why.Ended end) e d = tell.moved ∙ (ap (λ (v : Why). (departed v p).moved) e ∙ over_unmoved end (d ∙ ap Some e))

  -- whoever doesn't leave for a move keeps the flag with which it was put in line there
  pub leaver_keeps : (e : End) → w ≡ why.Ended e → is_moved q ≡ is_done b.since (ticks_of q) (deed_at b)
  leaver_keeps e i = tell.moved ∙ (ap (λ (v : Why). (departed v p).moved) i ∙ (sym (idle_is 0) ∙ ap (λ (m : Bool). (ticks_of q == b.since) && m) h.by_move))

  busy_is : (x : Why) (g : ℕ) → w ≡ x → is_move x ≡ true → is_idle (here g) ≡ false
  busy_is (why.Move to) g e m = idle_is g ∙ due_unmoved p to l.rests (l.move to e ∙ ap Some e)
  busy_is (why.Ended end) g e m = let z : ⊥ = cc in absurd z

  pub leaver_last : (g : ℕ) (x : Leaving) → due p ≡ Some w → x.transit.parcel ≡ q → x.why ≡ w → x.transit.stays.items ≡ b.stays.items ++ here g ∷ [] → x.transit.resident ≡ true → IsLast x
  leaver_last g x d is for stays resident = record {
    before = b.stays.items;
    stay = here g;
    stays = stays;
    resident = resident;
    busy = λ m. busy_is x.why g (sym for) m;
    flag = ap is_moved is ∙ flag_is x.why (sym for) d;
  }

  -- a tenant whose stays have this one may leave
  pub may_leave : (g : ℕ) (came : Bool) (t : Transit) (e : Entry) (o : Option Deed) → t.parcel ≡ q → t.stays.items ≡ b.stays.items ++ stay_now g b.since b.noted came (deed_at b) → e.from ≡ ticks_of t.parcel
      → o ≡ Some (deed_of t) → t.resident ≡ came → (came ≡ false → is_moved q ≡ (deed_at b).moved) → MayLeave g b.since b.noted came (deed_at b) e o
  may_leave g came t e o is stays from known resident kept = record {
    from = from ∙ (ap ticks_of is ∙ leaver_ticks);
    deed = deed_of t;
    known = known;
    origin = ap origin_in is ∙ (tell.origin ∙ (origin_same w p ∙ sym h.origin));
    free = ap free_of is ∙ (tell.free ∙ (free_same w p ∙ sym h.free));
    stays = stays ∙ ap (λ (xs : List Stay). xs ++ stay_now g b.since b.noted came (deed_at b)) h.stays;
    resident = resident;
    done = λ d. ap is_moved is ∙ (tell.moved ∙ moved_stays w p (done_by (is_there p) refl d));
    moves = λ m no.
        moved_by w p (is_some (move_at b.noted (deeds.run_in (deed_at b)).plan.errands) ≡ true) l.rests l.move (sym (ap is_moved is ∙ tell.moved) ∙ m)
        (λ x. let y = h.moved x in
        let z : is_done b.since b.noted (deed_at b) ≡ true = both (b.noted == b.since) (deed_at b).moved (eq-eqb b.noted b.since (now ∙ y.1)) y.2 in
        let w : ⊥ = cc in absurd w)
        (λ x. subst (λ (r : Origin). is_some (move_at b.noted (origin_of r).plan.errands) ≡ true) (sym h.origin)
        (subst (λ (k : ℕ). is_some (move_at k (run_in p).plan.errands) ≡ true) (sym (now ∙ tick_there p l.rests)) x));
    kept = λ c. ap is_moved is ∙ kept c;
  }

-- ---- what is told then

abbrev pub entry_out : ℕ → Transit → Entry
entry_out k t = record { seat = k; kind = Left; tenant = number_of t.parcel; from = ticks_of t.parcel; to = ticks_of t.parcel }

-- that it left
abbrev left_at : ℕ → ℕ → Mark
left_at t k = record { kind = Left; tenant = t; tick = k }

abbrev pub mark_out : Transit → Mark
mark_out t = left_at (number_of t.parcel) (ticks_of t.parcel)

pub mark_leaver : (w : Why) (p : Point) (t : Transit) → IsPointOf t.parcel (departed w p) → rests p ≡ true → mark_out t ≡ mark_of Left p
mark_leaver w p t at r =
    let tell = tells t.parcel (departed w p) at in
    ap (λ (n : ℕ). left_at n (ticks_of t.parcel)) (tell.number ∙ number_same w p) ∙ ap (left_at p.number) (tell.ticks ∙ (begun_same w p ∙ sym (tick_there p r)))

-- the note of a tenant that comes out
pub record IsOutNote (k : ℕ) (t : Transit) (n : Note) : Type 0 where
  pub entry : n.entry ≡ entry_out k t
  pub deed : deed_in n ≡ Some (deed_of t)

-- the seat of a resident is in the midst, and that of one in line
pub seats_resident : (bs ws : List Berth) (i : ℕ) (b : Berth) → i < length bs → b ≡ get_or bs i b
    → seats bs ws ≡ map (seat true) (take i bs) ++ seat true b ∷ (map (seat true) (drop (suc i) bs) ++ map (seat false) ws)
seats_resident bs ws i b lt is =
    let xs = take i bs in
    let ys = drop (suc i) bs in
    ap (λ (zs : List Berth). seats zs ws) (split_at bs i b lt ∙ ap (λ (z : Berth). xs ++ z ∷ ys) (sym is))
    ∙ (ap (λ (zs : List Seat). zs ++ map (seat false) ws) (map-append (seat true) xs (b ∷ ys)) ∙ append_assoc (map (seat true) xs) (seat true b ∷ map (seat true) ys) (map (seat false) ws))

pub seats_waiter : (bs ws : List Berth) (i : ℕ) (b : Berth) → i < length ws → b ≡ get_or ws i b
    → seats bs ws ≡ (map (seat true) bs ++ map (seat false) (take i ws)) ++ seat false b ∷ map (seat false) (drop (suc i) ws)
seats_waiter bs ws i b lt is =
    let xs = take i ws in
    let ys = drop (suc i) ws in
    ap (λ (zs : List Berth). seats bs zs) (split_at ws i b lt ∙ ap (λ (z : Berth). xs ++ z ∷ ys) (sym is))
    ∙ (ap (λ (zs : List Seat). map (seat true) bs ++ zs) (map-append (seat false) xs (b ∷ ys)) ∙ sym (append_assoc (map (seat true) bs) (map (seat false) xs) (seat false b ∷ map (seat false) ys)))

module _ (l : Label) (notes : List Note) (n : Note) (k : ℕ) (t : Transit) (m : IsOutNote k t n) where
  -- the seat that is left is in the midst
  told_out : (bs ws bs' ws' : List Berth) (xs ys : List Seat) (s : Seat) → IsTold l notes bs ws → seats bs ws ≡ xs ++ s ∷ ys → seats bs' ws' ≡ xs ++ ys → n.entry.tenant ≡ s.tenant → n.entry.to ≡ s.now
      → MayLeave l.fabric s.since s.now s.came s.deed n.entry (deed_in n) → IsTold l (notes ++ n ∷ []) bs' ws'
  told_out bs ws bs' ws' xs ys s h before after who to may =
      let apart : AreApart (xs ++ s ∷ ys) = subst AreApart (h.replayed ∙ before) (apart_legal l.fabric l.capacity notes h.legal) in
      let at : place_of n.entry.tenant (seats bs ws) ≡ Inside s.since s.now s.came s.deed = ap₂ place_of who before ∙ place_mid xs ys s apart in
      told_next l notes n bs ws bs' ws' Left (ap (λ (x : Entry). x.kind) m.entry) h (subst (λ (q : Place). May l.fabric Left q n) (sym at) (may, to)) tt
      (ap₂ histories.without who before ∙ (without_mid xs ys s apart ∙ sym after)) (λ o i. let z : ⊥ = cc in absurd z)

  pub told_left : (bs ws : List Berth) (i : ℕ) (b : Berth) → i < length bs → b ≡ get_or bs i b → IsTold l notes bs ws → number_of t.parcel ≡ b.tenant → ticks_of t.parcel ≡ b.noted
      → MayLeave l.fabric b.since b.noted true (deed_at b) n.entry (deed_in n) → IsTold l (notes ++ n ∷ []) (remove bs i) ws
  told_left bs ws i b lt is h who to may =
      let xs = take i bs in
      let ys = drop (suc i) bs in
      told_out bs ws (remove bs i) ws (map (seat true) xs) (map (seat true) ys ++ map (seat false) ws) (seat true b) h
      (seats_resident bs ws i b lt is)
      (ap (λ (zs : List Seat). zs ++ map (seat false) ws) (map-append (seat true) xs ys) ∙ append_assoc (map (seat true) xs) (map (seat true) ys) (map (seat false) ws))
      (ap (λ (x : Entry). x.tenant) m.entry ∙ who) (ap (λ (x : Entry). x.to) m.entry ∙ to) may

  pub told_withdrawn : (bs ws : List Berth) (i : ℕ) (b : Berth) → i < length ws → b ≡ get_or ws i b → IsTold l notes bs ws → number_of t.parcel ≡ b.tenant → ticks_of t.parcel ≡ b.noted
      → MayLeave l.fabric b.since b.noted false (deed_at b) n.entry (deed_in n) → IsTold l (notes ++ n ∷ []) bs (remove ws i)
  told_withdrawn bs ws i b lt is h who to may =
      let xs = take i ws in
      let ys = drop (suc i) ws in
      told_out bs ws bs (remove ws i) (map (seat true) bs ++ map (seat false) xs) (map (seat false) ys) (seat false b) h
      (seats_waiter bs ws i b lt is)
      (ap (λ (zs : List Seat). map (seat true) bs ++ zs) (map-append (seat false) xs ys) ∙ sym (append_assoc (map (seat true) bs) (map (seat false) xs) (map (seat false) ys)))
      (ap (λ (x : Entry). x.tenant) m.entry ∙ who) (ap (λ (x : Entry). x.to) m.entry ∙ to) may

  token_told : told n.entry (deed_in n) ≡ tokens (t ∷ [])
  token_told = ap (λ (e : Entry). told e (deed_in n)) m.entry ∙ ap (told (entry_out k t)) m.deed

  pub written_out : (x y : NotedCore) → y.label ≡ x.label → y.notes.items ≡ x.notes.items ++ n ∷ [] → y.told.items ≡ x.told.items ++ n.entry ∷ [] → number_of t.parcel < x.label.tenants
      → IsWritten k x y (tokens (t ∷ [])) (mark_out t ∷ [])
  written_out x y label ns ts few =
      written_one k x y n (tokens (t ∷ [])) (mark_out t ∷ []) label ns ts (ap (λ (e : Entry). e.seat) m.entry) (subst (λ (j : ℕ). j < x.label.tenants) (sym (ap (λ (e : Entry). e.tenant) m.entry)) few)
      (ap (λ (j : Kind). put_at j n) (ap (λ (e : Entry). e.kind) m.entry))
      (ap (λ (j : Kind). out_at j n) (ap (λ (e : Entry). e.kind) m.entry) ∙ token_told)
      (ap (λ (e : Entry). mark_at e.kind e) m.entry)

-- a stay more behind those that lead to where it begins
pub stay_more : (s g since r to : ℕ) (m : Bool) (xs ys : List Stay) → ys ≡ xs ++ record { fabric = g; from = since; to = r; by_move = m } ∷ [] → r ≡ to → since ≤ to → chains s xs since ≡ true → chains s ys to ≡ true
stay_more s g since r to m xs ys is e l h =
    ap (λ (zs : List Stay). chains s zs to) is
    ∙ (ap (λ (k : ℕ). chains s (xs ++ record { fabric = g; from = since; to = k; by_move = m } ∷ []) to) e ∙ chains-snoc s since xs (record { fabric = g; from = since; to = to; by_move = m }) h refl l)
