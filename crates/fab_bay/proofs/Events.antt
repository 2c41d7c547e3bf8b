-- What events do to a core with its history, where nothing is written.
use Rattle.std.proofs.Common.{◌≡◌, ℕ, ◌+◌, ◌<◌, ◌++◌, length, Bool, true, false, List, [], ◌∷◌, Option, Some, None, Result, Ok, Err, refl, sym, ap, ◌∙◌, subst, arith}
use Rattle.std.specs.Prelude.{if◌then◌else◌, slice_get, slice_index_or, ◌==◌, ◌&&◌, nat_lt, not, position, OnOk}
use Rattle.std.specs.List.{position_or_len}
use Rattle.std.specs.Result.{is_err}
use Rattle.std.proofs.lemmas.Bool.{eqb-true}
use Rattle.std.proofs.lemmas.List.Sums.{passes_at_first}
use Rattle.std.proofs.lemmas.Option.{get_or_from_slice_get}
use Rattle.std.proofs.lemmas.Bool.Decides.{nat_tests}
use Rattle.std.specs.declared.alloc.Global.{Global}
use Rattle.std.specs.declared.vec.Vec.{Vec}
use Rattle.ten_core.specs.sub_nodes.specs.Code.{table_of}
use Rattle.ten_core.specs.sub_nodes.specs.Stands.{at_trap}
use Rattle.fab_core.specs.fab_model.specs.Points.{Point, called, run_in, saved, served, waits}
use Rattle.fab_core.specs.fab_model.specs.Fabrics.{all_served, all_stepped, changed, first_leaving, first_of, head_fits, held, is_of, may_cycle, Fabric}
use Rattle.fab_core.specs.fab_model.specs.Worlds.{serves, World, Cycle, Hold, Serve}
use Rattle.fab_core.specs.declared.cores.FabCore.{FabCore}
use Rattle.fab_core.specs.Standing.{IsFabric}
use Rattle.fab_core.specs.fab_model.specs.declared.transit.Transit.{Transit}
use Rattle.fab_core.specs.fab_model.specs.Histories.{replay, IsLegal}
use Rattle.fab_bay.specs.declared.berth.Berth.{Berth}
use Rattle.fab_bay.specs.declared.noted.Label.{Label}
use Rattle.fab_bay.specs.declared.noted.NotedCore.{NotedCore}
use Rattle.fab_bay.specs.Berths.{seats, AreBerths, AreWaiters}
use Rattle.fab_core.specs.fab_lock.specs.declared.entry.Kind.TheVariants as kind
use Rattle.fab_bay.specs.Marks.{mark_of, save_for, Mark}
use Rattle.fab_bay.specs.Standing.{HasRoomFor, IsNoted, IsSame}
use Rattle.fab_bay.specs.Ways.{Goes}
use Rattle.fab_bay.proofs.Onward.{Changes, goes-event, goes-none}
use Rattle.fab_bay.proofs.Places.{some-equal}
use Rattle.fab_bay.proofs.Steps.{all-served, all-stepped, BoundaryLaw, CallTicksLaw, OneStateLaw, RisesLaw, TicksLaw}

-- the core alone has changed
pub record Core (x y : NotedCore) : Type 0 where
  pub label : y.label ≡ x.label
  pub berths : y.berths ≡ x.berths
  pub waiting : y.waiting ≡ x.waiting
  pub notes : y.notes.items ≡ x.notes.items
  pub told : y.told.items ≡ x.told.items

changes : (x y : NotedCore) → Core x y → Changes x y
changes x y h = record { label = h.label; notes = h.notes; told = h.told }

pub keeps-noted : (x y : NotedCore) (f g : Fabric) → Core x y → IsNoted x f → IsFabric y.core g → g.capacity ≡ f.capacity → AreBerths x.label.tenants x.berths.items g.residents → AreWaiters x.label.tenants x.waiting.items g.line → IsNoted y g
keeps-noted x y f g c h core capacity residents line = record {
  core = core;
  capacity = capacity ∙ h.capacity ∙ ap (λ (l : Label). l.capacity) (sym c.label);
  residents = subst (λ (l : Label). AreBerths l.tenants y.berths.items g.residents) (sym c.label) (subst (λ (z : Vec Berth Global). AreBerths x.label.tenants z.items g.residents) (sym c.berths) residents);
  line = subst (λ (l : Label). AreWaiters l.tenants y.waiting.items g.line) (sym c.label) (subst (λ (z : Vec Berth Global). AreWaiters x.label.tenants z.items g.line) (sym c.waiting) line);
  legal = subst (λ (l : Label). IsLegal l.fabric l.capacity y.notes.items) (sym c.label) (subst (λ ns. IsLegal x.label.fabric x.label.capacity ns) (sym c.notes) h.legal);
  replayed = ap (λ ns. replay [] ns) c.notes ∙ h.replayed ∙ ap (λ (z : Vec Berth Global). seats z.items x.waiting.items) (sym c.berths) ∙ ap (λ (z : Vec Berth Global). seats y.berths.items z.items) (sym c.waiting);
  lines = λ e. rw c.notes (h.lines (ap (λ (l : Label). l.any_puts) (sym c.label) ∙ e));
}

-- ---- nothing

pub same-noted : (x y : NotedCore) (f : Fabric) → IsSame x y → IsNoted x f → IsNoted y f
same-noted x y f s h = keeps-noted x y f f (record { label = s.label; berths = s.berths; waiting = s.waiting; notes = s.notes; told = s.told }) h (subst (λ (k : FabCore). IsFabric k f) (sym s.core) h.core) refl h.residents h.line

pub goes-same : (k : ℕ) (x y : NotedCore) (out : List Transit) → IsSame x y → Goes k 0 x y out out
goes-same k x y out s = goes-none k x y out (record { label = s.label; notes = s.notes; told = s.told }) (λ f h. same-noted x y f s h)

pub goes-core : (k : ℕ) (x y : NotedCore) (out : List Transit) → Core x y → ((f : Fabric) → IsFabric x.core f → IsFabric y.core f) → Goes k 0 x y out out
goes-core k x y out c go = goes-none k x y out (changes x y c) (λ f h. keeps-noted x y f f c h (go f h.core) refl h.residents h.line)

-- ---- a cycle

pub goes-cycle : RisesLaw → TicksLaw → BoundaryLaw → OneStateLaw → (k : ℕ) (x y : NotedCore) (out : List Transit) → Core x y → ((f : Fabric) → IsFabric x.core f → IsFabric y.core (all_stepped f))
    → ((f : Fabric) → IsNoted x f → may_cycle f ≡ true) → ((f : Fabric) → IsNoted x f → f.holding ≡ false → (first_leaving f.residents ≡ None) × (head_fits f ≡ false)) → Goes k 1 x y out out
goes-cycle rise same boundary one k x y out c go steps order = goes-event k 1 x y out Cycle (changes x y c) refl
    (λ f ps h.
    let w : World = record { fabric = f; transit = ps } in
    let v : World = record { fabric = all_stepped f; transit = ps } in
    subst (λ (u : World). IsNoted y u.fabric × (u.transit ≡ ps)) (ap (λ b. if b then v else w) (sym (steps f h)))
    (keeps-noted x y f (all_stepped f) c h (go f h.core) refl (all-stepped rise same boundary one f.holding x.label.tenants x.core.joined x.core.residents.items x.berths.items f.residents h.core.residents h.residents) h.line, refl))
    (λ f ps h. ((steps f h, order f h), tt))
    (λ f ps h. refl)

-- ---- a hold

pub goes-hold : (k : ℕ) (x y : NotedCore) (out : List Transit) → Core x y → x.core.holding ≡ false → ((f : Fabric) → IsFabric x.core f → IsFabric y.core (held f)) → Goes k 0 x y out out
goes-hold k x y out c free go = goes-event k 0 x y out Hold (changes x y c) refl
    (λ f ps h.
    let off : f.holding ≡ false = sym h.core.holding ∙ free in
    let w : World = record { fabric = f; transit = ps } in
    let v : World = record { fabric = held f; transit = ps } in
    subst (λ (u : World). IsNoted y u.fabric × (u.transit ≡ ps)) (ap (λ b. if b then w else v) (sym off)) (keeps-noted x y f (held f) c h (go f h.core) refl h.residents h.line, refl))
    (λ f ps h. (tt, tt))
    (λ f ps h. refl)

-- ---- what is served

pub goes-serve : CallTicksLaw → (k t : ℕ) (x y : NotedCore) (out : List Transit) → Core x y → ((f : Fabric) → IsFabric x.core f → IsFabric y.core (all_served t f))
    → ((f : Fabric) → IsNoted x f → (p : Point) × (first_of t f.residents ≡ Some p) × (waits p ≡ true) × (at_trap (table_of (run_in p).flat) p.stage ≡ true)) → Goes k 0 x y out out
goes-serve same k t x y out c go waiting = goes-event k 0 x y out (Serve t) (changes x y c) refl
    (λ f ps h.
    let p = waiting f h in
    let w : World = record { fabric = f; transit = ps } in
    let v : World = record { fabric = all_served t f; transit = ps } in
    let is : serves w t (first_of t f.residents) ≡ v = ap (serves w t) p.1 ∙ ap (λ b. if b then v else w) p.2 in
    subst (λ (u : World). IsNoted y u.fabric × (u.transit ≡ ps)) (sym is)
    (keeps-noted x y f (all_served t f) c h (go f h.core) refl (all-served same t x.label.tenants x.core.joined x.core.residents.items x.berths.items f.residents h.core.residents h.residents) h.line, refl))
    (λ f ps h. (tt, tt))
    (λ f ps h.
    let w = waiting f h in
    let q : Point = w.0 in
    let one : Bool → List Mark = λ b. if b then mark_of kind.Saved q ∷ [] else [] in
    sym
    (ap (λ (o : Option Point). save_for o ++ []) w.1
    ∙ (ap (λ (b : Bool). one (b && not (at_trap (table_of (run_in q).flat) q.stage)) ++ []) w.2 ∙ ap (λ (b : Bool). one (not b) ++ []) w.3)))

pub serve-noted : CallTicksLaw → (t : ℕ) (x y : NotedCore) (f : Fabric) → Core x y → IsFabric y.core (all_served t f) → IsNoted x f → IsNoted y (all_served t f)
serve-noted same t x y f c go h =
    keeps-noted x y f (all_served t f) c h go refl (all-served same t x.label.tenants x.core.joined x.core.residents.items x.berths.items f.residents h.core.residents h.residents) h.line

-- ---- the place of a resident

served-number : (b : Bool) (p : Point) → (if b then called p else saved p).number ≡ p.number
served-number true p = refl
served-number false p = refl

-- the first of a number bears it
pub first-number : (t : ℕ) (ps : List Point) (p : Point) → first_of t ps ≡ Some p → p.number ≡ t
first-number t [] p e = let z : ⊥ = cc in absurd z
first-number t (x ∷ ps) p e = by (is_of t x) refl e (first-number t ps p)
  where
    by : (v : Bool) → is_of t x ≡ v → (if v then Some x else first_of t ps) ≡ Some p → (first_of t ps ≡ Some p → p.number ≡ t) → p.number ≡ t
    by true i e h = ap (λ (q : Point). q.number) (sym (some-equal x p e)) ∙ eqb-true x.number t i
    by false i e h = h e

pub first-is : (t : ℕ) (ps : List Point) (p : Point) → first_of t ps ≡ Some p → first_of t (changed t served ps) ≡ Some (served p)
first-is t [] p e = let z : ⊥ = cc in absurd z
first-is t (x ∷ ps) p e = by (is_of t x) refl e (first-is t ps p)
  where
    by : (v : Bool) → is_of t x ≡ v → (if v then Some x else first_of t ps) ≡ Some p → (first_of t ps ≡ Some p → first_of t (changed t served ps) ≡ Some (served p))
        → first_of t (if v then served x ∷ ps else x ∷ changed t served ps) ≡ Some (served p)
    by true i e h =
        let same : is_of t (served x) ≡ true = ap (λ n. n == t) (served-number (at_trap (table_of (run_in x).flat) x.stage) x) ∙ i in
        ap (λ b. if b then Some (served x) else first_of t ps) same ∙ ap (λ (q : Point). Some (served q)) (some-equal x p e)
    by false i e h = ap (λ b. if b then Some x else first_of t (changed t served ps)) i ∙ h e

pub first-served : (t : ℕ) (ps : List Point) (p : Point) → first_of t ps ≡ Some p → (q : Point) × (first_of t (changed t served ps) ≡ Some q)
first-served t ps p e = (served p, first-is t ps p e)

-- it has a place among the berths
in-berths : (n t : ℕ) (bs : List Berth) (ps : List Point) (p : Point) → AreBerths n bs ps → first_of t ps ≡ Some p → position_or_len (λ (b : Berth). b.tenant == t) bs < length bs
in-berths n t [] [] p h e = let z : ⊥ = cc in absurd z
in-berths n t [] (x ∷ ps) p h e = absurd h
in-berths n t (b ∷ bs) [] p h e = absurd h
in-berths n t (b ∷ bs) (x ∷ ps) p h e = by (b.tenant == t) refl (in-berths n t bs ps p h.1)
  where
    by : (v : Bool) → (b.tenant == t) ≡ v → (first_of t ps ≡ Some p → position_or_len (λ (c : Berth). c.tenant == t) bs < length bs) → position_or_len (λ (c : Berth). c.tenant == t) (b ∷ bs) < length (b ∷ bs)
    by true i r = let zero : position_or_len (λ (c : Berth). c.tenant == t) (b ∷ bs) ≡ 0 = ap (λ y. if not y then 1 + position_or_len (λ (c : Berth). c.tenant == t) bs else 0) i in omega (arith, zero)
    by false i r =
        let off : is_of t x ≡ false = ap (λ m. m == t) (sym h.0.number) ∙ i in
        let rest : first_of t ps ≡ Some p = sym (ap (λ y. if y then Some x else first_of t ps) off) ∙ e in
        let more : position_or_len (λ (c : Berth). c.tenant == t) (b ∷ bs) ≡ 1 + position_or_len (λ (c : Berth). c.tenant == t) bs =
        ap (λ y. if not y then 1 + position_or_len (λ (c : Berth). c.tenant == t) bs else 0) i in
        let lt = r rest in
        omega (arith, more, lt)

pub has-place : (n t : ℕ) (bs : List Berth) (ps : List Point) (p : Point) → AreBerths n bs ps → first_of t ps ≡ Some p → position (λ (b : Berth). b.tenant == t) bs ≡ None → ⊥
has-place n t bs ps p h e none =
    let lt = in-berths n t bs ps p h e in
    let k = position_or_len (λ (b : Berth). b.tenant == t) bs in
    let yes-so : nat_lt k (length bs) ≡ true = grind (arith, nat_tests, lt) in
    let some : position (λ (b : Berth). b.tenant == t) bs ≡ Some k = ap (λ y. if y then Some k else None) yes-so in
    cc

pos-some : (k n i : ℕ) → (if nat_lt k n then Some k else None) ≡ Some i → (k ≡ i) × (k < n)
pos-some k n i e = by (nat_lt k n) refl e
  where
    by : (v : Bool) → nat_lt k n ≡ v → (if v then Some k else None) ≡ Some i → (k ≡ i) × (k < n)
    by true t e = (cc, grind (arith, nat_tests, t))
    by false t e = let z : ⊥ = cc in absurd z

-- the berth of a resident
pub record Berthed (t : ℕ) (x : NotedCore) (place : ℕ) : Type 0 where
  pub inside : place < length x.berths.items
  pub tenant : (b : Berth) → slice_get x.berths.items place ≡ Some b → b.tenant ≡ t

pub berthed : (t : ℕ) (x : NotedCore) (place : ℕ) → position (λ (b : Berth). b.tenant == t) x.berths.items ≡ Some place → Berthed t x place
berthed t x place e =
    let bs = x.berths.items in
    let k = position_or_len (λ (b : Berth). b.tenant == t) bs in
    let s = pos-some k (length bs) place e in
    record {
      inside = subst (λ i. i < length bs) s.0 s.1;
      tenant = λ b at.
          let pass : ((slice_index_or bs k b).tenant == t) ≡ true = passes_at_first (λ (c : Berth). c.tenant == t) bs b s.1 in
          let get : slice_index_or bs place b ≡ b = get_or_from_slice_get bs place b b at in
          let same : slice_index_or bs k b ≡ b = ap (λ i. slice_index_or bs i b) s.0 ∙ get in
          eqb-true b.tenant t (ap (λ (c : Berth). c.tenant == t) (sym same) ∙ pass);
    }

-- ---- small steps

pub on-ok : {T E : Type 0} (A : Type 0) (r : Result T E) → is_err r ≡ false → OnOk r A → A
on-ok A (Ok v) e h = h
on-ok A (Err v) e h = let z : ⊥ = cc in absurd z

pub same-back : (x y : NotedCore) → IsSame x y → IsSame y x
same-back x y s = record { label = sym s.label; core = sym s.core; berths = sym s.berths; waiting = sym s.waiting; notes = sym s.notes; told = sym s.told }

pub room-by : (n m : ℕ) (x : NotedCore) → n ≡ m → HasRoomFor n x → HasRoomFor m x
room-by n m x e h = subst (λ k. HasRoomFor k x) e h
