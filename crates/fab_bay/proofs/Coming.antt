-- Tenants of the line that join the residents.
use Rattle.std.proofs.Common.{◌≡◌, ℕ, zero, suc, ◌+◌, ◌-◌, ◌<◌, ◌≤◌, Bool, true, false, List, [], ◌∷◌, ◌++◌, length, get_or, take, drop, drop-cons, map, refl, sym, ap, ap₂, ◌∙◌, subst, append_assoc, arith}
use Rattle.std.specs.Prelude.{if◌then◌else◌, vec_len, vec_capacity}
use Rattle.std.specs.List.{remove}
use Rattle.std.proofs.lemmas.List.{append-nil, map-append, length-append, length-drop, length-take-le, take_more}
use Rattle.vl_design.specs.declared.capacity.Cost.{Cost}
use Rattle.vl_design.specs.Costs.{saturated_cost}
use Rattle.vl_design.specs.Cost.{cost}
use Rattle.fab_core.specs.fab_lock.specs.declared.entry.Entry.{Entry}
use Rattle.fab_core.specs.fab_lock.specs.declared.entry.Kind.{Kind}
use Rattle.fab_core.specs.fab_lock.specs.declared.entry.Kind.TheVariants.{Came}
use Rattle.ten_core.specs.declared.origin.Origin.{Origin}
use Rattle.ten_core.specs.Tenants.{origin_of}
use Rattle.fab_core.specs.fab_model.specs.Points.{cost_of, Point}
use Rattle.fab_core.specs.fab_model.specs.Fabrics.{joiners, joining, plus, rebuilt, total, within, Fabric}
use Rattle.fab_core.specs.fab_model.specs.Worlds.{happens, is_at_rest, Rebuild, World}
use Rattle.fab_core.specs.declared.cores.FabCore.{FabCore}
use Rattle.fab_core.specs.Standing.{IsFabric}
use Rattle.fab_core.specs.fab_model.specs.declared.note.Note.{Note}
use Rattle.fab_core.specs.fab_model.specs.declared.transit.Transit.{Transit}
use Rattle.fab_core.specs.fab_model.specs.Histories.{after, changed, is_head, place_of, seated, used, Inside, May, Place, Seat}
use Rattle.fab_core.specs.fab_model.specs.Tokens.{out_at, put_at}
use Rattle.fab_bay.specs.declared.berth.Berth.{Berth}
use Rattle.fab_bay.specs.declared.noted.Label.{Label}
use Rattle.fab_bay.specs.declared.noted.NotedCore.{NotedCore}
use Rattle.fab_bay.specs.Berths.{seat, seats, AreBerths, AreWaiters}
use Rattle.fab_bay.specs.Marks.{is_run, mark_at, mark_of, AreClosed, Mark}
use Rattle.fab_bay.specs.Standing.{CanSettle, HasRoomFor, IsNoted}
use Rattle.fab_bay.specs.Ways.{tokens, AreOut, Goes, IsWritten}
use Rattle.fab_bay.proofs.Going.{closed-append, closed-by, closed-none, closed-one}
use Rattle.fab_bay.proofs.Kept.{goes_by, noted_by, told_next, told_of, written_none, written_one, written_then, IsTold}
use Rattle.fab_bay.proofs.Places.{berths_many, waiters_at, waiters_berths}
use Rattle.fab_bay.proofs.Ran.{room_less}
use Rattle.fab_core.specs.fab_model.proofs.Seats.{apart_legal, came_map, changed_mid, head_map, place_mid, used_before, AreApart}
use Rattle.vl_design.proofs.Shared.{cost_by}

-- ---- what fits

total-snoc : (ps : List Point) (p : Point) → total (ps ++ p ∷ []) ≡ plus (total ps) (cost_of p)
total-snoc [] p = cost_by (plus (cost_of p) (total [])) (plus (total []) (cost_of p)) (omega arith) (omega arith) (omega arith)
total-snoc (q ∷ ps) p =
    let e = total-snoc ps p in
    let r = ap (λ (c : Cost). c.regs) e in
    let s = ap (λ (c : Cost). c.cells) e in
    let t = ap (λ (c : Cost). c.mem) e in
    cost_by (total ((q ∷ ps) ++ p ∷ [])) (plus (total (q ∷ ps)) (cost_of p)) (omega (arith, r)) (omega (arith, s)) (omega (arith, t))

-- so many of the line fit beside the residents
pub joined_fits : (c u : Cost) (rs ps : List Point) (k : ℕ) → u ≡ total rs → within u c ≡ true → k ≤ joiners c u ps → within (total (rs ++ take k ps)) c ≡ true
joined_fits c u rs ps zero e f l = ap (λ (zs : List Point). within (total zs) c) (append-nil rs) ∙ (ap (λ (x : Cost). within x c) (sym e) ∙ f)
joined_fits c u rs [] (suc k) e f l = absurd (omega (arith, l))
joined_fits c u rs (p ∷ ps) (suc k) e f l =
    step (within (plus u (cost_of p)) c) refl l
    (λ w m. joined_fits c (plus u (cost_of p)) (rs ++ p ∷ []) ps k (ap (λ (x : Cost). plus x (cost_of p)) e ∙ sym (total-snoc rs p)) w m)
  where
    step : (b : Bool) → within (plus u (cost_of p)) c ≡ b → suc k ≤ (if b then suc (joiners c (plus u (cost_of p)) ps) else 0)
        → (within (plus u (cost_of p)) c ≡ true → k ≤ joiners c (plus u (cost_of p)) ps → within (total ((rs ++ p ∷ []) ++ take k ps)) c ≡ true) → within (total (rs ++ p ∷ take k ps)) c ≡ true
    step true w m r = ap (λ (zs : List Point). within (total zs) c) (sym (append_assoc rs (p ∷ []) (take k ps))) ∙ r w (omega (arith, m))
    step false w m r = absurd (omega (arith, m))

pub joiners_most : (c u : Cost) (ps : List Point) → joiners c u ps ≤ length ps
joiners_most c u [] = omega arith
joiners_most c u (p ∷ ps) = step (within (plus u (cost_of p)) c) (joiners_most c (plus u (cost_of p)) ps)
  where
    step : (b : Bool) → joiners c (plus u (cost_of p)) ps ≤ length ps → (if b then suc (joiners c (plus u (cost_of p)) ps) else 0) ≤ suc (length ps)
    step true l = omega (arith, l)
    step false l = omega arith

used_total : (n : ℕ) (bs : List Berth) (ps : List Point) → AreBerths n bs ps → used (map (seat true) bs) ≡ total ps
used_total n [] [] h = refl
used_total n [] (p ∷ ps) h = absurd h
used_total n (b ∷ bs) [] h = absurd h
used_total n (b ∷ bs) (p ∷ ps) h = ap₂ plus (ap (λ (o : Origin). saturated_cost (cost (origin_of o).flat)) h.0.origin) (used_total n bs ps h.1)

used_seats : (bs ws : List Berth) → used (seats bs ws) ≡ used (map (seat true) bs)
used_seats bs ws = used_before (map (seat true) bs) (map (seat false) ws) (came_map false (seat false) ws (λ b. refl))

-- what residents take by the history is what they take
pub fits_by : (n : ℕ) (c : Cost) (bs ws : List Berth) (ps : List Point) → AreBerths n bs ps → within (total ps) c ≡ true → within (used (seats bs ws)) c ≡ true
fits_by n c bs ws ps h f = ap (λ (x : Cost). within x c) (used_seats bs ws ∙ used_total n bs ps h) ∙ f

-- ---- lists

pub berths_append : (n : ℕ) (bs cs : List Berth) (ps qs : List Point) → AreBerths n bs ps → AreBerths n cs qs → AreBerths n (bs ++ cs) (ps ++ qs)
berths_append n [] cs [] qs h i = i
berths_append n [] cs (p ∷ ps) qs h i = absurd h
berths_append n (b ∷ bs) cs [] qs h i = absurd h
berths_append n (b ∷ bs) cs (p ∷ ps) qs h i = (h.0, berths_append n bs cs ps qs h.1 i)

pub berths_take : (n k : ℕ) (bs : List Berth) (ps : List Point) → AreBerths n bs ps → AreBerths n (take k bs) (take k ps)
berths_take n zero bs ps h = tt
berths_take n (suc k) [] [] h = tt
berths_take n (suc k) [] (p ∷ ps) h = absurd h
berths_take n (suc k) (b ∷ bs) [] h = absurd h
berths_take n (suc k) (b ∷ bs) (p ∷ ps) h = (h.0, berths_take n k bs ps h.1)

pub waiters_drop : (n k : ℕ) (bs : List Berth) (ps : List Point) → AreWaiters n bs ps → AreWaiters n (drop k bs) (drop k ps)
waiters_drop n zero bs ps h = h
waiters_drop n (suc k) [] [] h = tt
waiters_drop n (suc k) [] (p ∷ ps) h = absurd h
waiters_drop n (suc k) (b ∷ bs) [] h = absurd h
waiters_drop n (suc k) (b ∷ bs) (p ∷ ps) h = waiters_drop n k bs ps h.1

-- ---- what is told then

abbrev pub entry_came : ℕ → Berth → Entry
entry_came k b = record { seat = k; kind = Came; tenant = b.tenant; from = b.noted; to = b.noted }

-- that it joined
abbrev came_at : ℕ → ℕ → Mark
came_at t k = record { kind = Came; tenant = t; tick = k }

abbrev pub mark_came : Berth → Mark
mark_came b = came_at b.tenant b.noted

-- what is told of those that join is what is called for
marks_came : (n k : ℕ) (bs : List Berth) (ps : List Point) → AreWaiters n bs ps → map mark_came (take k bs) ≡ map (mark_of Came) (take k ps)
marks_came n zero bs ps h = refl
marks_came n (suc k) [] [] h = refl
marks_came n (suc k) [] (p ∷ ps) h = absurd h
marks_came n (suc k) (b ∷ bs) [] h = absurd h
marks_came n (suc k) (b ∷ bs) (p ∷ ps) h =
    ap (λ (m : Mark). m ∷ map mark_came (take k bs)) (ap (λ (t : ℕ). came_at t b.noted) h.0.berth.number ∙ ap (came_at p.number) h.0.noted)
    ∙ ap (λ (l : List Mark). mark_of Came p ∷ l) (marks_came n k bs ps h.1)

-- the head of the line joins
pub told_came : (l : Label) (notes : List Note) (n : Note) (bs ws : List Berth) (b : Berth) (k : ℕ) → n.entry ≡ entry_came k b → IsTold l notes bs (b ∷ ws)
    → within (used (seats (bs ++ b ∷ []) ws)) l.capacity ≡ true → IsTold l (notes ++ n ∷ []) (bs ++ b ∷ []) ws
told_came l notes n bs ws b k e h fits =
    let who : n.entry.tenant ≡ b.tenant = ap (λ (x : Entry). x.tenant) e in
    let ss = seats bs (b ∷ ws) in
    let apart : AreApart (map (seat true) bs ++ seat false b ∷ map (seat false) ws) = subst AreApart h.replayed (apart_legal l.fabric l.capacity notes h.legal) in
    let at : place_of n.entry.tenant ss ≡ Inside b.since b.noted false (seat false b).deed =
    ap (λ (t : ℕ). place_of t ss) who ∙ place_mid (map (seat true) bs) (map (seat false) ws) (seat false b) apart in
    let then_ : after Came ss n ≡ seats (bs ++ b ∷ []) ws =
    ap (λ (t : ℕ). changed t seated ss) who ∙ (changed_mid seated (map (seat true) bs) (map (seat false) ws) (seat false b) apart
    ∙ (sym (append_assoc (map (seat true) bs) (seat true b ∷ []) (map (seat false) ws))
    ∙ ap (λ (zs : List Seat). zs ++ map (seat false) ws) (sym (map-append (seat true) bs (b ∷ []))))) in
    told_next l notes n bs (b ∷ ws) (bs ++ b ∷ []) ws Came (ap (λ (x : Entry). x.kind) e) h
    (subst (λ (q : Place). May l.fabric Came q n) (sym at) (refl, ap (λ (x : Entry). x.from) e, ap (λ (x : Entry). x.to) e))
    (ap (λ (t : ℕ). is_head t ss) who ∙ head_map (seat true) bs (map (seat false) ws) (seat false b) (λ x. refl) refl, ap (λ (zs : List Seat). within (used zs) l.capacity) then_ ∙ fits) then_
    (λ o i. let z : ⊥ = cc in absurd z)

pub written_came : (k : ℕ) (x y : NotedCore) (n : Note) (b : Berth) → n.entry ≡ entry_came k b → y.label ≡ x.label → y.notes.items ≡ x.notes.items ++ n ∷ [] → y.told.items ≡ x.told.items ++ n.entry ∷ []
    → b.tenant < x.label.tenants → IsWritten k x y [] (mark_came b ∷ [])
written_came k x y n b e label ns ts few =
    written_one k x y n [] (mark_came b ∷ []) label ns ts (ap (λ (z : Entry). z.seat) e) (subst (λ (j : ℕ). j < x.label.tenants) (sym (ap (λ (z : Entry). z.tenant) e)) few)
    (ap (λ (j : Kind). put_at j n) (ap (λ (z : Entry). z.kind) e)) (ap (λ (j : Kind). out_at j n) (ap (λ (z : Entry). z.kind) e))
    (ap (λ (z : Entry). mark_at z.kind z) e)

-- ---- how many join

-- a core whose residents have joined: as it stands before their notes
pub record IsRebuilt (x z : NotedCore) : Type 0 where
  pub label : z.label ≡ x.label
  pub core : (f : Fabric) → IsFabric x.core f → IsFabric z.core (rebuilt f)
  pub berths : z.berths.items ≡ x.berths.items
  pub waiting : z.waiting.items ≡ x.waiting.items
  pub notes : z.notes.items ≡ x.notes.items
  pub told : z.told.items ≡ x.told.items

pub joined_many : (f : Fabric) → length (rebuilt f).residents ≡ length f.residents + joining f
joined_many f =
    let a = length-append f.residents (take (joining f) f.line) in
    let b = length-take-le (joining f) f.line (joiners_most f.capacity (total f.residents) f.line) in
    omega (arith, a, b)

-- ---- one after another

-- so many have come
pub record IsComing (k i : ℕ) (x z : NotedCore) : Type 0 where
  pub written : IsWritten k x z [] (map mark_came (take i x.waiting.items))
  pub core : z.core ≡ x.core
  pub berths : z.berths.items ≡ x.berths.items ++ take i x.waiting.items
  pub waiting : z.waiting.items ≡ drop i x.waiting.items
  pub told : IsTold x.label z.notes.items z.berths.items z.waiting.items
  pub room : (m : ℕ) → m + i ≤ length x.berths.items + length x.waiting.items + length x.waiting.items → HasRoomFor m z
  pub free : vec_len z.berths + length x.waiting.items ≤ vec_capacity z.berths + i
  pub closed : (added : List Note) → z.notes.items ≡ x.notes.items ++ added → AreClosed added

-- the fabric for which a core stood before
pub record IsStart (x : NotedCore) (f : Fabric) : Type 0 where
  pub residents : AreBerths x.label.tenants x.berths.items f.residents
  pub line : AreWaiters x.label.tenants x.waiting.items f.line
  pub capacity : f.capacity ≡ x.label.capacity
  pub fits : within (total f.residents) f.capacity ≡ true

pub start_of : (w x : NotedCore) (f : Fabric) → IsRebuilt w x → IsNoted w f → IsStart x f
start_of w x f r h = record {
  residents =
      subst (λ (l : Label). AreBerths l.tenants x.berths.items f.residents) (sym r.label)
      (subst (λ (bs : List Berth). AreBerths w.label.tenants bs f.residents) (sym r.berths) h.residents);
  line =
      subst (λ (l : Label). AreWaiters l.tenants x.waiting.items f.line) (sym r.label)
      (subst (λ (bs : List Berth). AreWaiters w.label.tenants bs f.line) (sym r.waiting) h.line);
  capacity = h.capacity ∙ ap (λ (l : Label). l.capacity) (sym r.label);
  fits = h.core.fits;
}

pub told_start : (w x : NotedCore) (f : Fabric) → IsRebuilt w x → IsNoted w f → IsTold x.label x.notes.items x.berths.items x.waiting.items
told_start w x f r h =
    subst (λ (l : Label). IsTold l x.notes.items x.berths.items x.waiting.items) (sym r.label)
    (subst (λ (ns : List Note). IsTold w.label ns x.berths.items x.waiting.items) (sym r.notes)
    (subst (λ (bs : List Berth). IsTold w.label w.notes.items bs x.waiting.items) (sym r.berths)
    (subst (λ (bs : List Berth). IsTold w.label w.notes.items w.berths.items bs) (sym r.waiting) (told_of w f h))))

pub start_many : (x : NotedCore) (f : Fabric) → IsStart x f → joining f ≤ length x.waiting.items
start_many x f h =
    let a = joiners_most f.capacity (total f.residents) f.line in
    let b = berths_many x.label.tenants x.waiting.items f.line (waiters_berths x.label.tenants x.waiting.items f.line h.line) in
    omega (arith, a, b)

-- a core with one more that has come
pub record IsCame (k : ℕ) (y z : NotedCore) (b : Berth) (n : Note) : Type 0 where
  pub read : b ≡ get_or y.waiting.items 0 b
  pub entry : n.entry ≡ entry_came k b
  pub label : z.label ≡ y.label
  pub core : z.core ≡ y.core
  pub notes : z.notes.items ≡ y.notes.items ++ n ∷ []
  pub told : z.told.items ≡ y.told.items ++ n.entry ∷ []
  pub waiting : z.waiting.items ≡ remove y.waiting.items 0
  pub berths : z.berths.items ≡ y.berths.items ++ b ∷ []
  pub room : (m : ℕ) → HasRoomFor (suc m) y → HasRoomFor m z
  pub free : vec_len z.berths ≡ vec_len y.berths + 1
  pub wide : vec_capacity z.berths ≡ vec_capacity y.berths

module _ (k i : ℕ) (x y z : NotedCore) (f : Fabric) (b : Berth) (n : Note) (s : IsStart x f) (l : i < joining f) (h : IsComing k i x y) (c : IsCame k y z b n) where
  abbrev ws : List Berth
  ws = x.waiting.items

  there : i < length ws
  there = let a = start_many x f s in omega (arith, a, l)

  -- the head of those that are still in line
  here : drop i ws ≡ b ∷ drop (suc i) ws
  here =
      let e = drop-cons ws i b there in
      e ∙ ap (λ (d : Berth). d ∷ drop (suc i) ws) (sym (c.read ∙ ap (λ (zs : List Berth). get_or zs 0 b) (h.waiting ∙ e)))

  waits : y.waiting.items ≡ b ∷ drop (suc i) ws
  waits = h.waiting ∙ here

  taken : x.berths.items ++ take (i + 1) ws ≡ y.berths.items ++ b ∷ []
  taken =
      let e : get_or ws i b ≡ b = sym (c.read ∙ ap (λ (zs : List Berth). get_or zs 0 b) (h.waiting ∙ drop-cons ws i b there)) in
      ap (λ (zs : List Berth). x.berths.items ++ zs) (take_more ws i b there ∙ ap (λ (d : Berth). take i ws ++ d ∷ []) e)
      ∙ (sym (append_assoc x.berths.items (take i ws) (b ∷ [])) ∙ ap (λ (zs : List Berth). zs ++ b ∷ []) (sym h.berths))

  marked : map mark_came (take (i + 1) ws) ≡ map mark_came (take i ws) ++ mark_came b ∷ []
  marked =
      let e : get_or ws i b ≡ b = sym (c.read ∙ ap (λ (zs : List Berth). get_or zs 0 b) (h.waiting ∙ drop-cons ws i b there)) in
      ap (λ (zs : List Berth). map mark_came zs) (take_more ws i b there ∙ ap (λ (d : Berth). take i ws ++ d ∷ []) e) ∙ map-append mark_came (take i ws) (b ∷ [])

  all : AreBerths x.label.tenants (y.berths.items ++ b ∷ []) (f.residents ++ take (i + 1) f.line)
  all =
      subst (λ (zs : List Berth). AreBerths x.label.tenants zs (f.residents ++ take (i + 1) f.line)) taken
      (berths_append x.label.tenants x.berths.items (take (i + 1) ws) f.residents (take (i + 1) f.line) s.residents
      (berths_take x.label.tenants (i + 1) ws f.line (waiters_berths x.label.tenants ws f.line s.line)))

  few : b.tenant < y.label.tenants
  few =
      let w = waiters_at x.label.tenants ws f.line i b (some_point f.line i (let e = berths_many x.label.tenants ws f.line (waiters_berths x.label.tenants ws f.line s.line) in omega (arith, e, there))) s.line there in
      let e : get_or ws i b ≡ b = sym (c.read ∙ ap (λ (zs : List Berth). get_or zs 0 b) (h.waiting ∙ drop-cons ws i b there)) in
      subst (λ (j : Label). b.tenant < j.tenants) (sym h.written.label) (subst (λ (d : Berth). d.tenant < x.label.tenants) e w.berth.few)
    where
      some_point : (ps : List Point) (j : ℕ) → j < length ps → Point
      some_point [] j lt = absurd (omega (arith, lt))
      some_point (p ∷ ps) j lt = p

  fit : within (used (seats (y.berths.items ++ b ∷ []) (drop (suc i) ws))) x.label.capacity ≡ true
  fit =
      ap (λ (o : Cost). within (used (seats (y.berths.items ++ b ∷ []) (drop (suc i) ws))) o) (sym s.capacity)
      ∙ fits_by x.label.tenants f.capacity (y.berths.items ++ b ∷ []) (drop (suc i) ws) (f.residents ++ take (i + 1) f.line) all
      (joined_fits f.capacity (total f.residents) f.residents f.line (i + 1) refl s.fits (omega (arith, l)))

  pub coming_more : IsComing k (i + 1) x z
  coming_more =
      let told = told_came x.label y.notes.items n y.berths.items (drop (suc i) ws) b k c.entry
      (subst (λ (zs : List Berth). IsTold x.label y.notes.items y.berths.items zs) waits h.told) fit in
      let line : z.waiting.items ≡ drop (suc i) ws = c.waiting ∙ ap (λ (zs : List Berth). remove zs 0) waits in
      let next : suc i ≡ i + 1 = omega arith in
      let free = h.free in
      let more = c.free in
      let wide = c.wide in
      record {
        written =
            subst (λ (ms : List Mark). IsWritten k x z [] ms) (sym marked)
            (written_then k x y z [] [] (map mark_came (take i ws)) (mark_came b ∷ []) h.written (written_came k y z n b c.entry c.label c.notes c.told few));
        core = c.core ∙ h.core;
        berths = c.berths ∙ sym taken;
        waiting = line ∙ ap (λ (j : ℕ). drop j ws) next;
        told =
            subst (λ (ns : List Note). IsTold x.label ns z.berths.items z.waiting.items) (sym c.notes)
            (subst (λ (bs : List Berth). IsTold x.label (y.notes.items ++ n ∷ []) bs z.waiting.items) (sym c.berths)
            (subst (λ (bs : List Berth). IsTold x.label (y.notes.items ++ n ∷ []) (y.berths.items ++ b ∷ []) bs) (sym line) told));
        room = λ m e. c.room m (h.room (suc m) (omega (arith, e)));
        free = omega (arith, free, more, wide);
        closed = λ added e.
            closed-by x.notes.items y.notes.items z.notes.items h.written.added (n ∷ []) added h.written.notes c.notes e
            (closed-append h.written.added (n ∷ []) (h.closed h.written.added h.written.notes) (closed-one n (ap (λ (a : Entry). is_run a.kind) c.entry)));
      }

-- ---- all that join have come

module _ (k : ℕ) (w x z : NotedCore) (i : ℕ) (r : IsRebuilt w x) (h : IsComing k i x z) where
  pub noted_rebuilt : (f : Fabric) → IsNoted w f → i ≡ joining f → IsNoted z (rebuilt f)
  noted_rebuilt f n e =
      let s = start_of w x f r n in
      let ws = x.waiting.items in
      noted_by z x.label z.notes.items (x.berths.items ++ take i ws) (drop i ws) (rebuilt f) h.written.label refl h.berths h.waiting
      (subst (λ (c : FabCore). IsFabric c (rebuilt f)) (sym h.core) (r.core f n.core)) s.capacity
      (subst (λ (j : ℕ). AreBerths x.label.tenants (x.berths.items ++ take i ws) (f.residents ++ take j f.line)) e
      (berths_append x.label.tenants x.berths.items (take i ws) f.residents (take i f.line) s.residents (berths_take x.label.tenants i ws f.line (waiters_berths x.label.tenants ws f.line s.line))))
      (subst (λ (j : ℕ). AreWaiters x.label.tenants (drop i ws) (drop j f.line)) e (waiters_drop x.label.tenants i ws f.line s.line))
      (subst (λ (bs : List Berth). IsTold x.label z.notes.items bs (drop i ws)) h.berths (subst (λ (bs : List Berth). IsTold x.label z.notes.items z.berths.items bs) h.waiting h.told))

  rebuild_world : (f : Fabric) (ps : List Point) → is_at_rest f ≡ true → happens (record { fabric = f; transit = ps }) Rebuild ≡ record { fabric = rebuilt f; transit = ps }
  rebuild_world f ps e = ap (λ (b : Bool). if b then record { fabric = rebuilt f; transit = ps } else record { fabric = f; transit = ps }) e

  pub rebuilt_goes : (out : List Transit) → ((f : Fabric) → IsNoted w f → is_at_rest f ≡ true) → ((f : Fabric) → IsNoted w f → i ≡ joining f) → Goes k 0 w z out out
  rebuilt_goes out rest many =
      goes_by k 0 w z out out [] (map mark_came (take i x.waiting.items)) (Rebuild ∷ [])
      (written_then k w x z [] [] [] (map mark_came (take i x.waiting.items)) (written_none k w x r.label r.notes r.told) h.written)
      (λ added e. h.closed added (e ∙ ap (λ (l : List Note). l ++ added) (sym r.notes))) (sym (append-nil (tokens out))) refl
      (λ f ps n o. subst (λ (v : World). IsNoted z v.fabric × AreOut out v.transit) (sym (rebuild_world f ps (rest f n))) (noted_rebuilt f n (many f n), o))
      (λ f ps n o. (tt, tt))
      (λ f ps n o.
      let called : List Mark = map (mark_of Came) (take (joining f) f.line) in
      marks_came x.label.tenants i x.waiting.items f.line (start_of w x f r n).line
      ∙ (ap (λ (j : ℕ). map (mark_of Came) (take j f.line)) (many f n)
      ∙ (sym (append-nil called) ∙ sym (ap (λ (b : Bool). (if b then called else []) ++ []) (rest f n)))))

pub coming_start : (k : ℕ) (w x : NotedCore) (f : Fabric) → IsRebuilt w x → IsNoted w f → HasRoomFor (length x.berths.items + length x.waiting.items + length x.waiting.items) x
    → vec_len x.berths + length x.waiting.items ≤ vec_capacity x.berths → IsComing k 0 x x
coming_start k w x f r n room free = record {
  written = written_none k x x refl refl refl;
  core = refl;
  berths = sym (append-nil x.berths.items);
  waiting = refl;
  told = told_start w x f r n;
  room = λ m e. room_less m (length x.berths.items + length x.waiting.items + length x.waiting.items) x (omega (arith, e)) room;
  free = omega (arith, free);
  closed = λ added e. closed-none x.notes.items x.notes.items added refl e;
}

pub coming_there : (k i : ℕ) (x y : NotedCore) (f : Fabric) → IsStart x f → i < joining f → IsComing k i x y → length y.waiting.items + i ≡ length x.waiting.items
coming_there k i x y f s l h =
    let a = start_many x f s in
    let b = length-drop i x.waiting.items in
    let c = ap length h.waiting in
    omega (arith, a, b, c, l)

-- how many come
pub many_join : (w x : NotedCore) (f : Fabric) (total before count : ℕ) → IsRebuilt w x → IsNoted w f → ((g : Fabric) → IsFabric x.core g → total ≡ length g.residents) → before ≡ length x.berths.items → count ≡ total - before
    → count ≡ joining f
many_join w x f total before count r n t b c =
    let a = t (rebuilt f) (r.core f n.core) in
    let j = joined_many f in
    let s = start_of w x f r n in
    let m = berths_many x.label.tenants x.berths.items f.residents s.residents in
    omega (arith, a, b, c, j, m)

pub coming_room : (k i : ℕ) (w x z : NotedCore) (f : Fabric) → IsRebuilt w x → IsNoted w f → i ≡ joining f → IsComing k i x z → CanSettle z
coming_room k i w x z f r n e h =
    let s = start_of w x f r n in
    let a = start_many x f s in
    let b = length-append x.berths.items (take i x.waiting.items) in
    let c = length-take-le i x.waiting.items (omega (arith, e, a)) in
    let d = ap length h.berths in
    h.room (length z.berths.items) (omega (arith, a, b, c, d, e))
