-- Notes of runs and of snapshots, and what is known of berths behind them.
use Rattle.std.proofs.Common.{◌≡◌, ◌≢◌, ℕ, zero, suc, ◌+◌, ◌-◌, ◌<◌, ◌≤◌, ◌⊎◌, inl, inr, Bool, true, false, List, [], ◌∷◌, ◌++◌, Some, length, map, refl, sym, ap, ◌∙◌, subst, arith, eqb}
use Rattle.std.specs.Prelude.{if◌then◌else◌, slice_get, slice_set, slice_index_or, ◌||◌}
use Rattle.std.proofs.lemmas.Bool.{false≢true}
use Rattle.std.proofs.lemmas.List.{append-nil, length-set}
use Rattle.std.proofs.lemmas.Option.{slice_get_read}
use Rattle.std.proofs.lemmas.Bool.Decides.{eqb_tells}
use Rattle.std.specs.declared.alloc.Global.{Global}
use Rattle.std.specs.declared.vec.Vec.{Vec}
use Rattle.vl_design.specs.Alone.{Origin}
use Rattle.ten_core.specs.declared.origin.Origin.{Origin as From}
use Rattle.ten_core.specs.Tenants.{origin_of}
use Rattle.fab_core.specs.fab_lock.specs.declared.entry.Entry.{Entry}
use Rattle.fab_core.specs.fab_lock.specs.declared.entry.Kind.{Kind}
use Rattle.fab_core.specs.fab_lock.specs.declared.entry.Kind.TheVariants.{Ran, Saved}
use Rattle.fab_core.specs.fab_model.specs.Points.{Point, is_there, run_in, tick_of}
use Rattle.fab_core.specs.fab_model.specs.Fabrics.{Fabric}
use Rattle.fab_core.specs.Standing.{IsFabric}
use Rattle.fab_core.specs.fab_model.specs.declared.note.Note.{Note}
use Rattle.fab_core.specs.fab_model.specs.Deeds as deed
use Rattle.fab_core.specs.fab_model.specs.declared.transit.Transit.{Transit}
use Rattle.fab_core.specs.fab_model.specs.Tokens.{out_at, put_at}
use Rattle.fab_core.specs.fab_model.specs.Ends.{EndsNotBefore}
use Rattle.fab_core.specs.fab_model.specs.Histories.{after, changed, is_done, is_line, moved_to, place_of, HasNoMove, HasRoom, Inside, May, MayRun, Seat}
use Rattle.fab_bay.specs.declared.berth.Berth.{Berth}
use Rattle.fab_bay.specs.declared.noted.NotedCore.{NotedCore}
use Rattle.fab_bay.specs.Berths.{begun, deed_at, seat, seats, AreBerths, AreSettled, AreWaiters, IsBerth}
use Rattle.fab_bay.specs.Marks.{is_run, mark_at, marks, IsRunOf}
use Rattle.fab_bay.specs.Standing.{HasRoomFor, IsNoted}
use Rattle.fab_bay.specs.Ways.{Settles}
use Rattle.fab_bay.proofs.Kept.{noted_by, told_next, told_of}
use Rattle.fab_bay.proofs.Onward.{goes-note}
use Rattle.fab_bay.proofs.Places.{some-equal}
use Rattle.fab_bay.proofs.Midst.{changed_at, place_at}
use Rattle.fab_core.specs.fab_model.proofs.Seats.{apart_legal, AreApart}

-- ---- lists of berths

tail-same : (x y : Note) (xs ys : List Note) → x ∷ xs ≡ y ∷ ys → xs ≡ ys
tail-same x y xs ys e = cc

pub record There (n : ℕ) (bs : List Berth) (ps : List Point) (i : ℕ) : Type 0 where
  pub berth : Berth
  pub point : Point
  pub at : slice_get bs i ≡ Some berth
  pub stands : slice_get ps i ≡ Some point
  pub is : IsBerth n berth point

pub there : (n : ℕ) (bs : List Berth) (ps : List Point) (i : ℕ) → AreBerths n bs ps → i < length bs → There n bs ps i
there n [] ps i h lt = let z : ⊥ = omega (arith, lt) in absurd z
there n (b ∷ bs) [] i h lt = absurd h
there n (b ∷ bs) (p ∷ ps) zero h lt = record { berth = b; point = p; at = refl; stands = refl; is = h.0 }
there n (b ∷ bs) (p ∷ ps) (suc i) h lt = let r = there n bs ps i h.1 (omega (arith, lt)) in record { berth = r.berth; point = r.point; at = r.at; stands = r.stands; is = r.is }

pub berth-at : (n : ℕ) (bs : List Berth) (ps : List Point) (i : ℕ) (b : Berth) (p : Point) → AreBerths n bs ps → slice_get bs i ≡ Some b → slice_get ps i ≡ Some p → IsBerth n b p
berth-at n [] ps i b p h e g = let z : ⊥ = cc in absurd z
berth-at n (x ∷ bs) [] i b p h e g = absurd h
berth-at n (x ∷ bs) (y ∷ ps) zero b p h e g = subst (λ z. IsBerth n z p) (some-equal x b e) (subst (λ z. IsBerth n x z) (some-equal y p g) h.0)
berth-at n (x ∷ bs) (y ∷ ps) (suc i) b p h e g = berth-at n bs ps i b p h.1 e g

pub berths-set : (n : ℕ) (bs : List Berth) (ps : List Point) (i : ℕ) (b : Berth) (p : Point) → AreBerths n bs ps → slice_get ps i ≡ Some p → IsBerth n b p → AreBerths n (slice_set bs i b) ps
berths-set n [] ps i b p h g k = h
berths-set n (x ∷ bs) [] i b p h g k = absurd h
berths-set n (x ∷ bs) (y ∷ ps) zero b p h g k = (subst (λ z. IsBerth n b z) (sym (some-equal y p g)) k, h.1)
berths-set n (x ∷ bs) (y ∷ ps) (suc i) b p h g k = (h.0, berths-set n bs ps i b p h.1 g k)

pub get-set-same : {X : Type 0} (xs : List X) (i : ℕ) (v : X) → i < length xs → slice_get (slice_set xs i v) i ≡ Some v
get-set-same [] i v lt = let z : ⊥ = omega (arith, lt) in absurd z
get-set-same (x ∷ xs) zero v lt = refl
get-set-same (x ∷ xs) (suc i) v lt = get-set-same xs i v (omega (arith, lt))

pub get-set-other : {X : Type 0} (xs : List X) (i j : ℕ) (v : X) → j ≢ i → slice_get (slice_set xs i v) j ≡ slice_get xs j
get-set-other [] i j v ne = refl
get-set-other (x ∷ xs) zero zero v ne = absurd (ne refl)
get-set-other (x ∷ xs) zero (suc j) v ne = refl
get-set-other (x ∷ xs) (suc i) zero v ne = refl
get-set-other (x ∷ xs) (suc i) (suc j) v ne = get-set-other xs i j v (λ e. ne (ap suc e))

pub set-same : {X : Type 0} (xs : List X) (i : ℕ) (x : X) → slice_get xs i ≡ Some x → slice_set xs i x ≡ xs
set-same [] i x e = refl
set-same (y ∷ xs) zero x e = ap (λ z. z ∷ xs) (sym (some-equal y x e))
set-same (y ∷ xs) (suc i) x e = ap (λ zs. y ∷ zs) (set-same xs i x e)

-- ---- a run

tick-high : (x : Bool) (k : ℕ) → (if x then k else k - 1) ≤ k
tick-high true k = omega arith
tick-high false k = omega arith

pub tick-begun : (p : Point) → tick_of p ≤ begun p
tick-begun p = tick-high (p.stage.state.finished || is_there p) p.stage.state.ticks

abbrev pub noted_at : ℕ → Berth → Berth
noted_at k b = record b { noted = k }

-- its run is its deed's
run-of-deed : (n : ℕ) (b : Berth) (p : Point) → IsBerth n b p → run_in p ≡ deed.run_in (deed_at b)
run-of-deed n b p h = ap (λ (x : From). origin_of x) (sym h.origin)

pub ran-berth : (n : ℕ) (b : Berth) (p : Point) → IsBerth n b p → b.noted < tick_of p → IsBerth n (noted_at (tick_of p) b) p
ran-berth n b p h lt = let o = h.order in record {
  number = h.number;
  few = h.few;
  origin = h.origin;
  free = h.free;
  by_move = h.by_move;
  lives = h.lives;
  order = (omega (arith, o.0, lt), omega arith);
  end = h.end;
  moves = λ k le under s.
      let m = h.moves k (omega (arith, le, lt)) under s in
      let at = m.0 in
      let z : ⊥ = omega (arith, at, le, lt) in absurd z;
  moved = h.moved;
  done = h.done;
  lively = h.lively;
  later = h.later;
  stays = h.stays;
  chained = h.chained;
  room = h.room;
}

pub may-run : (n : ℕ) (b : Berth) (p : Point) (m : Note) → IsBerth n b p → b.noted < tick_of p → m.entry.from ≡ b.noted → m.entry.to ≡ tick_of p → MayRun b.since b.noted (deed_at b) m.entry
may-run n b p m h lt from to =
    let high = tick-begun p in
    let same = run-of-deed n b p h in
    record {
      from = from;
      later = omega (arith, lt, to);
      end = subst (λ (o : Origin). EndsNotBefore o m.entry.to) same (λ j e q x. let le = h.end j e q x in omega (arith, le, high, to));
      moves = subst (λ (o : Origin). HasNoMove o.plan b.noted m.entry.to (is_done b.since b.noted (deed_at b))) same (λ k le under s. h.moves k le (omega (arith, under, high, to)) s);
    }

-- ---- a note more

abbrev pub seats_of : NotedCore → List Seat
seats_of x = seats x.berths.items x.waiting.items

-- a note that may follow, and what the core is then
pub record Follows (x y : NotedCore) (f g : Fabric) (n : Note) : Type 0 where
  pub core : IsFabric y.core g
  pub capacity : g.capacity ≡ f.capacity
  pub label : y.label ≡ x.label
  pub notes : y.notes.items ≡ x.notes.items ++ n ∷ []
  pub may : May x.label.fabric n.entry.kind (place_of n.entry.tenant (seats_of x)) n
  pub room : HasRoom x.label.capacity n.entry.kind (seats_of x) n
  pub after : after n.entry.kind (seats_of x) n ≡ seats_of y
  pub residents : AreBerths x.label.tenants y.berths.items g.residents
  pub line : AreWaiters x.label.tenants y.waiting.items g.line
  pub first : x.label.any_puts ≡ false → is_line n.entry.kind ≡ true → n.entry.seat ≡ 0

pub noted-next : (x y : NotedCore) (f g : Fabric) (n : Note) → IsNoted x f → Follows x y f g n → IsNoted y g
noted-next x y f g n h w =
    noted_by y x.label (x.notes.items ++ n ∷ []) y.berths.items y.waiting.items g w.label w.notes refl refl w.core (w.capacity ∙ h.capacity) w.residents w.line
    (told_next x.label x.notes.items n x.berths.items x.waiting.items y.berths.items y.waiting.items n.entry.kind refl (told_of x f h) w.may w.room w.after w.first)

pub apart-seats : (x : NotedCore) (f : Fabric) → IsNoted x f → AreApart (seats_of x)
apart-seats x f h = subst AreApart h.replayed (apart_legal x.label.fabric x.label.capacity x.notes.items h.legal)

-- a note of this kind, of the tenant in a berth
pub record Tells (n : Note) (k : Kind) (b : Berth) (from to : ℕ) : Type 0 where
  pub kind : n.entry.kind ≡ k
  pub tenant : n.entry.tenant ≡ b.tenant
  pub from_is : n.entry.from ≡ from
  pub to_is : n.entry.to ≡ to

-- the core and the line are the same, and a note more is written
pub record Writes (x y : NotedCore) (n : Note) : Type 0 where
  pub label : y.label ≡ x.label
  pub core : y.core ≡ x.core
  pub waiting : y.waiting ≡ x.waiting
  pub notes : y.notes.items ≡ x.notes.items ++ n ∷ []
  pub told : y.told.items ≡ x.told.items ++ n.entry ∷ []

is-place : (x : NotedCore) (f : Fabric) (i : ℕ) (b : Berth) (n : Note) (k : Kind) (from to : ℕ) → IsNoted x f → slice_get x.berths.items i ≡ Some b → Tells n k b from to
    → place_of n.entry.tenant (seats_of x) ≡ Inside b.since b.noted true (deed_at b)
is-place x f i b n k from to h at w = ap (λ t. place_of t (seats_of x)) w.tenant ∙ place_at x.berths.items i b (map (seat false) x.waiting.items) at (apart-seats x f h)

pub ran-noted : (x y : NotedCore) (f : Fabric) (i : ℕ) (b : Berth) (p : Point) (n : Note) → IsNoted x f → slice_get x.berths.items i ≡ Some b → slice_get f.residents i ≡ Some p
    → b.noted < tick_of p → Tells n Ran b b.noted (tick_of p) → Writes x y n → y.berths.items ≡ slice_set x.berths.items i (noted_at (tick_of p) b) → IsNoted y f
ran-noted x y f i b p n h at stands lt w v set =
    let is = berth-at x.label.tenants x.berths.items f.residents i b p h.residents at stands in
    noted-next x y f f n h (record {
      core = subst (λ c. IsFabric c f) (sym v.core) h.core;
      capacity = refl;
      label = v.label;
      notes = v.notes;
      may = subst (λ k. May x.label.fabric k (place_of n.entry.tenant (seats_of x)) n) (sym w.kind)
          (subst (λ pl. May x.label.fabric Ran pl n) (sym (is-place x f i b n Ran b.noted (tick_of p) h at w)) (refl, may-run x.label.tenants b p n is lt w.from_is w.to_is));
      room = subst (λ k. HasRoom x.label.capacity k (seats_of x) n) (sym w.kind) tt;
      after = ap (λ k. after k (seats_of x) n) w.kind
          ∙ ap (λ t. changed t (moved_to n.entry.to) (seats_of x)) w.tenant
          ∙ ap (λ k. changed b.tenant (moved_to k) (seats_of x)) w.to_is
          ∙ changed_at x.berths.items i b (map (seat false) x.waiting.items) at (apart-seats x f h) (tick_of p)
          ∙ ap (λ bs. seats bs x.waiting.items) (sym set)
          ∙ ap (λ (z : Vec Berth Global). seats y.berths.items z.items) (sym v.waiting);
      residents = subst (λ bs. AreBerths x.label.tenants bs f.residents) (sym set)
          (berths-set x.label.tenants x.berths.items f.residents i (noted_at (tick_of p) b) p h.residents stands (ran-berth x.label.tenants b p is lt));
      line = subst (λ (z : Vec Berth Global). AreWaiters x.label.tenants z.items f.line) (sym v.waiting) h.line;
      first = λ any e. absurd (false≢true (sym (ap is_line w.kind) ∙ e));
    })

pub saved-noted : (x y : NotedCore) (f : Fabric) (i : ℕ) (b : Berth) (n : Note) → IsNoted x f → slice_get x.berths.items i ≡ Some b → Tells n Saved b b.noted b.noted → Writes x y n
    → y.berths ≡ x.berths → IsNoted y f
saved-noted x y f i b n h at w v set =
    noted-next x y f f n h (record {
      core = subst (λ c. IsFabric c f) (sym v.core) h.core;
      capacity = refl;
      label = v.label;
      notes = v.notes;
      may = subst (λ k. May x.label.fabric k (place_of n.entry.tenant (seats_of x)) n) (sym w.kind)
          (subst (λ pl. May x.label.fabric Saved pl n) (sym (is-place x f i b n Saved b.noted b.noted h at w)) (refl, w.from_is, w.to_is));
      room = subst (λ k. HasRoom x.label.capacity k (seats_of x) n) (sym w.kind) tt;
      after = ap (λ k. after k (seats_of x) n) w.kind ∙ ap (λ (z : Vec Berth Global). seats z.items x.waiting.items) (sym set) ∙ ap (λ (z : Vec Berth Global). seats y.berths.items z.items) (sym v.waiting);
      residents = subst (λ (z : Vec Berth Global). AreBerths x.label.tenants z.items f.residents) (sym set) h.residents;
      line = subst (λ (z : Vec Berth Global). AreWaiters x.label.tenants z.items f.line) (sym v.waiting) h.line;
      first = λ any e. absurd (false≢true (sym (ap is_line w.kind) ∙ e));
    })

-- ---- room

pub room_less : (m n : ℕ) (x : NotedCore) → m ≤ n → HasRoomFor n x → HasRoomFor m x
room_less m n x l r = let a = r.notes in let b = r.told in record { notes = omega (arith, a, l); told = omega (arith, b, l) }

-- ---- all settled

abbrev pub AreSettledTo : ℕ → List Berth → List Point → Type 0
AreSettledTo k bs ps = (j : ℕ) (b : Berth) (p : Point) → j < k → slice_get bs j ≡ Some b → slice_get ps j ≡ Some p → b.noted ≡ tick_of p

settled-off : (k : ℕ) (b : Berth) (bs : List Berth) (p : Point) (ps : List Point) → AreSettledTo (suc k) (b ∷ bs) (p ∷ ps) → AreSettledTo k bs ps
settled-off k b bs p ps h j x q lt at stands = h (suc j) x q (omega (arith, lt)) at stands

pub settled-all : (n : ℕ) (bs : List Berth) (ps : List Point) → AreBerths n bs ps → AreSettledTo (length bs) bs ps → AreSettled bs ps
settled-all n [] ps a h = tt
settled-all n (b ∷ bs) [] a h = absurd a
settled-all n (b ∷ bs) (p ∷ ps) a h = (h 0 b p (omega arith) refl refl, settled-all n bs ps a.1 (settled-off (length bs) b bs p ps h))

pub settled-more : (k : ℕ) (bs new : List Berth) (ps : List Point) (old : Berth) → slice_get bs k ≡ Some old → k < length bs → AreSettledTo k bs ps
    → ((p : Point) → slice_get ps k ≡ Some p → new ≡ slice_set bs k (noted_at (tick_of p) old)) → ((j : ℕ) → j ≢ k → slice_get new j ≡ slice_get bs j) → AreSettledTo (k + 1) new ps
settled-more k bs new ps old at lt h set other j b p under is stands = step (eqb_tells j k)
  where
    step : ((eqb j k ≡ true) × (j ≡ k)) ⊎ ((eqb j k ≡ false) × (j ≢ k)) → b.noted ≡ tick_of p
    step (inl e) =
        let same : slice_get new k ≡ Some (noted_at (tick_of p) old) = ap (λ xs. slice_get xs k) (set p (subst (λ i. slice_get ps i ≡ Some p) e.1 stands)) ∙ get-set-same bs k (noted_at (tick_of p) old) lt in
        ap (λ (z : Berth). z.noted) (some-equal b (noted_at (tick_of p) old) (sym (subst (λ i. slice_get new i ≡ Some b) e.1 is) ∙ same))
    step (inr e) = let ne = e.1 in h j b p (omega (arith, under, ne)) (sym (other j e.1) ∙ is) stands

-- ---- one resident

pub cancel : (xs ys zs : List Note) → xs ++ ys ≡ xs ++ zs → ys ≡ zs
cancel [] ys zs e = e
cancel (x ∷ xs) ys zs e = cancel xs ys zs (tail-same x x (xs ++ ys) (xs ++ zs) e)

-- what was read of its berth and of itself
pub record Read (x : NotedCore) (place : ℕ) (old : Berth) (who tick : ℕ) : Type 0 where
  pub here : slice_get x.berths.items place ≡ Some old
  pub resident : (f : Fabric) (p : Point) → IsFabric x.core f → slice_get f.residents place ≡ Some p → (who ≡ p.number) × (tick ≡ tick_of p)
  pub inside : place < length x.berths.items

-- its run was written
pub record Wrote (number : ℕ) (x y : NotedCore) (place : ℕ) (old : Berth) (who tick : ℕ) (n : Note) : Type 0 where
  pub writes : Writes x y n
  pub entry : n.entry ≡ record { seat = number; kind = Ran; tenant = who; from = old.noted; to = tick }
  pub ahead : old.noted < tick
  pub set : y.berths.items ≡ slice_set x.berths.items place (noted_at tick old)

pub set-by : (x : NotedCore) (place : ℕ) (old b : Berth) (tick k : ℕ) → slice_get x.berths.items place ≡ Some old → slice_get x.berths.items place ≡ Some b → tick ≡ k
    → slice_set x.berths.items place (noted_at tick old) ≡ slice_set x.berths.items place (noted_at k b)
set-by x place old b tick k here at e = ap (λ (z : Berth). slice_set x.berths.items place (noted_at tick z)) (some-equal old b (sym here ∙ at)) ∙ ap (λ m. slice_set x.berths.items place (noted_at m b)) e

module _ (number : ℕ) (x y : NotedCore) (place : ℕ) (old : Berth) (who tick : ℕ) (n : Note) (r : Read x place old who tick) (w : Wrote number x y place old who tick n) where
  kind-is : n.entry.kind ≡ Ran
  kind-is = ap (λ (e : Entry). e.kind) w.entry

  pub ran-set : (f : Fabric) (p : Point) (b : Berth) → IsFabric x.core f → slice_get f.residents place ≡ Some p → slice_get x.berths.items place ≡ Some b
      → y.berths.items ≡ slice_set x.berths.items place (noted_at (tick_of p) b)
  ran-set f p b core stands at = w.set ∙ set-by x place old b tick (tick_of p) r.here at (r.resident f p core stands).1

  tenant-of : (f : Fabric) (p : Point) → IsNoted x f → slice_get f.residents place ≡ Some p → n.entry.tenant ≡ old.tenant
  tenant-of f p h stands = ap (λ (e : Entry). e.tenant) w.entry ∙ (r.resident f p h.core stands).0 ∙ sym (berth-at x.label.tenants x.berths.items f.residents place old p h.residents r.here stands).number

  pub ran-kept : (f : Fabric) → IsNoted x f → IsNoted y f
  ran-kept f h =
      let t = there x.label.tenants x.berths.items f.residents place h.residents r.inside in
      let k = r.resident f t.point h.core t.stands in
      ran-noted x y f place old t.point n h r.here t.stands (subst (λ m. old.noted < m) k.1 w.ahead)
      (record { kind = kind-is; tenant = tenant-of f t.point h t.stands; from_is = ap (λ (e : Entry). e.from) w.entry; to_is = ap (λ (e : Entry). e.to) w.entry ∙ k.1 })
      w.writes (w.set ∙ ap (λ m. slice_set x.berths.items place (noted_at m old)) k.1)

  pub ran-goes : (f : Fabric) → IsNoted x f → (out : List Transit) → Settles number x y out
  ran-goes f h out =
      let t = there x.label.tenants x.berths.items f.residents place h.residents r.inside in
      let v = w.writes in
      let few = (berth-at x.label.tenants x.berths.items f.residents place old t.point h.residents r.here t.stands).few in
      goes-note number x y out n v.label v.notes v.told (ap (λ (e : Entry). e.seat) w.entry) (subst (λ m. m < x.label.tenants) (sym (tenant-of f t.point h t.stands)) few)
      (ap (λ k. put_at k n ++ []) kind-is) (ap (λ k. out_at k n ++ []) kind-is) (ap (λ k. mark_at k n.entry ++ []) kind-is) ran-kept

  pub ran-runs : (added : List Note) → y.notes.items ≡ x.notes.items ++ added → marks added ≡ []
  ran-runs added e = subst (λ ns. marks ns ≡ []) (cancel x.notes.items (n ∷ []) added (sym w.writes.notes ∙ e)) (ap (λ k. mark_at k n.entry ++ []) kind-is)

  pub ran-one : (f : Fabric) → IsNoted x f → (t : ℕ) (added : List Note) → ((b : Berth) → slice_get x.berths.items place ≡ Some b → b.tenant ≡ t) → y.notes.items ≡ x.notes.items ++ added → IsRunOf t added
  ran-one f h t added who e =
      let s = there x.label.tenants x.berths.items f.residents place h.residents r.inside in
      subst (λ ns. IsRunOf t ns) (cancel x.notes.items (n ∷ []) added (sym w.writes.notes ∙ e)) (ap is_run kind-is, tenant-of f s.point h s.stands ∙ who old r.here)

-- nothing is told where nothing is written
pub none-runs : (x : NotedCore) (added : List Note) → x.notes.items ≡ x.notes.items ++ added → marks added ≡ []
none-runs x added e = subst (λ ns. marks ns ≡ []) (cancel x.notes.items [] added (append-nil x.notes.items ∙ e)) refl

pub none-one : (x : NotedCore) (t : ℕ) (added : List Note) → x.notes.items ≡ x.notes.items ++ added → IsRunOf t added
none-one x t added e = subst (λ ns. IsRunOf t ns) (cancel x.notes.items [] added (append-nil x.notes.items ∙ e)) tt

-- where it isn't ahead, it is where its last note says
pub still-set : (x : NotedCore) (f g : Fabric) (place : ℕ) (old : Berth) (who tick : ℕ) (p : Point) (b : Berth) → Read x place old who tick → IsNoted x g → tick ≤ old.noted → IsFabric x.core f
    → slice_get f.residents place ≡ Some p → slice_get x.berths.items place ≡ Some b → x.berths.items ≡ slice_set x.berths.items place (noted_at (tick_of p) b)
still-set x f g place old who tick p b r h le core stands at =
    let t = there x.label.tenants x.berths.items g.residents place h.residents r.inside in
    let is = berth-at x.label.tenants x.berths.items g.residents place old t.point h.residents r.here t.stands in
    let low = is.order.1 in
    let k = (r.resident g t.point h.core t.stands).1 in
    let tick-is : old.noted ≡ tick = omega (arith, low, k, le) in
    sym (set-same x.berths.items place old r.here) ∙ ap (λ m. slice_set x.berths.items place (noted_at m old)) tick-is ∙ set-by x place old b tick (tick_of p) r.here at (r.resident f p core stands).1

pub wrote : (number : ℕ) (x w : NotedCore) (place : ℕ) (old m : Berth) (who tick : ℕ) (n : Note) (v : Vec Berth Global) → Read x place old who tick → old.noted < tick
    → n.entry ≡ record { seat = number; kind = Ran; tenant = who; from = old.noted; to = tick } → Writes x w n → w.berths ≡ x.berths → m ≡ slice_index_or w.berths.items place m
    → v.items ≡ slice_set w.berths.items place (noted_at tick m) → Wrote number x (record w { berths = v }) place old who tick n
wrote number x w place old m who tick n v r ahead entry e berths value set = record {
  writes = record { label = e.label; core = e.core; waiting = e.waiting; notes = e.notes; told = e.told };
  entry = entry;
  ahead = ahead;
  set =
      let same : m ≡ slice_index_or x.berths.items place m = value ∙ ap (λ (z : Vec Berth Global). slice_index_or z.items place m) berths in
      let here = slice_get_read x.berths.items (length x.berths.items) place m refl r.inside same in
      set ∙ ap (λ (z : Vec Berth Global). slice_set z.items place (noted_at tick m)) berths ∙ set-by x place m old tick tick here r.here refl;
}

-- what `ran_one` promises of the berths
abbrev pub RanClause : (x y : NotedCore) → ℕ → Type 0
RanClause x y place = (f : Fabric) (p : Point) (b : Berth) → IsFabric x.core f → slice_get f.residents place ≡ Some p → slice_get x.berths.items place ≡ Some b
    → y.berths.items ≡ slice_set x.berths.items place (noted_at (tick_of p) b)

pub record Behind (x y : NotedCore) (f : Fabric) (place : ℕ) : Type 0 where
  pub old : Berth
  pub point : Point
  pub at : slice_get x.berths.items place ≡ Some old
  pub stands : slice_get f.residents place ≡ Some point
  pub set : y.berths.items ≡ slice_set x.berths.items place (noted_at (tick_of point) old)
  pub long : length y.berths.items ≡ length x.berths.items
  pub here : slice_get y.berths.items place ≡ Some (noted_at (tick_of point) old)

pub behind : (x y : NotedCore) (f : Fabric) (place : ℕ) → IsNoted x f → place < length x.berths.items → RanClause x y place → Behind x y f place
behind x y f place h lt ran =
    let t = there x.label.tenants x.berths.items f.residents place h.residents lt in
    let set = ran f t.point t.berth h.core t.stands t.at in
    record {
      old = t.berth;
      point = t.point;
      at = t.at;
      stands = t.stands;
      set = set;
      long = ap length set ∙ length-set x.berths.items place (noted_at (tick_of t.point) t.berth);
      here = ap (λ bs. slice_get bs place) set ∙ get-set-same x.berths.items place (noted_at (tick_of t.point) t.berth) lt;
    }
