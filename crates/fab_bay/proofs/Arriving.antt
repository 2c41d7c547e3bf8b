-- A tenant that is put in line.
use Rattle.std.proofs.Common.{◌≡◌, ◌≢◌, ℕ, ◌<◌, true, false, Some, None, List, [], ◌∷◌, ◌++◌, map, sym, ap, ◌∙◌, subst, append_assoc, arith}
use Rattle.std.specs.Prelude.{◌==◌, ◌||◌, is_some, position, vec_len, vec_capacity}
use Rattle.std.proofs.Props.{props}
use Rattle.std.proofs.lemmas.List.{map_push}
use mathlib.Core.HLevel.{is_prop→PathP}
use Rattle.vl_design.specs.Alone as alone
use Rattle.vl_design.specs.Alone.{first_tick}
use Rattle.fab_core.specs.fab_lock.specs.declared.entry.Entry.{Entry}
use Rattle.fab_core.specs.fab_lock.specs.declared.entry.Kind.TheVariants.{Line}
use Rattle.fab_core.specs.ten_parcel.specs.declared.parcel.Parcel.{Parcel}
use Rattle.fab_core.specs.ten_parcel.specs.Parcels.{is_moved, number_of, run_of, ticks_of}
use Rattle.fab_core.specs.fab_model.specs.Points.{ended, is_there, run_in, tick_of, Point}
use Rattle.fab_core.specs.fab_model.specs.Fabrics.{arrived, within, Fabric}
use Rattle.fab_core.specs.Standing.{IsFabric, IsPointOf}
use Rattle.fab_core.specs.fab_model.specs.declared.note.Note.{Note}
use Rattle.fab_core.specs.fab_model.specs.declared.transit.Stay.{Stay}
use Rattle.fab_core.specs.fab_model.specs.declared.transit.Transit.{Transit}
use Rattle.fab_core.specs.fab_model.specs.Deeds.{cost_of, deed_in, deed_of, Deed}
use Rattle.fab_core.specs.fab_model.specs.Ends.{EndsNotBefore}
use Rattle.fab_core.specs.fab_model.specs.Histories.{fits_alone, in_line, place_of, replay, Away, May, Place, Seat}
use Rattle.fab_core.specs.fab_model.specs.Stays.{chains}
use Rattle.fab_bay.specs.declared.berth.Berth.{Berth}
use Rattle.fab_bay.specs.declared.noted.Label.{Label}
use Rattle.fab_bay.specs.declared.noted.NotedCore.{NotedCore}
use Rattle.fab_bay.specs.Berths.{begun, deed_at, seat, seats, IsWaiter}
use Rattle.fab_bay.specs.Refusals.{IsAway}
use Rattle.fab_bay.specs.Standing.{IsNoted}
use Rattle.fab_bay.proofs.Kept.{noted_by, told_next, told_of, IsTold}
use Rattle.fab_bay.proofs.Places.{away_if, here_if, waiters_snoc}
use Rattle.fab_bay.proofs.Pointed.{going_if, lives_if, run_is, tells, there_if, Tells}

-- what is noted of a tenant that is put in line
pub record IsNew (b : Berth) (t : Transit) : Type 0 where
  pub tenant : b.tenant ≡ number_of t.parcel
  pub since : b.since ≡ ticks_of t.parcel
  pub noted : b.noted ≡ ticks_of t.parcel
  pub line : b.line.value ≡ t
  pub by_move : b.by_move ≡ is_moved t.parcel
  pub stays : b.stays.items ≡ t.stays.items
  pub room : vec_len b.stays < vec_capacity b.stays

pub new_waiter : (n : ℕ) (b : Berth) (t : Transit) (p : Point) → IsNew b t → number_of t.parcel < n → IsPointOf t.parcel p → ended p ≡ None → IsWaiter n b p
new_waiter n b t p w few at none =
    let tell : Tells t.parcel p = tells t.parcel p at in
    let there : is_there p ≡ true = there_if p tell.rests (going_if p none) in
    let run : run_of t.parcel ≡ run_in p = run_is t.parcel p tell in
    let since : b.since ≡ begun p = w.since ∙ tell.ticks in
    let noted : b.noted ≡ begun p = w.noted ∙ tell.ticks in
    let tick : tick_of p ≡ begun p = tell.tick in
    let deed : deed_at b ≡ deed_of t = ap deed_of w.line in
    let moved : (deed_at b).moved ≡ p.moved = ap (λ (d : Deed). d.moved) deed ∙ tell.moved in
    record {
      berth = record {
        number = w.tenant ∙ tell.number;
        few = subst (λ (k : ℕ). k < n) (sym w.tenant) few;
        origin = ap (λ (d : Deed). d.origin) deed ∙ tell.origin;
        free = ap (λ (d : Deed). d.free) deed ∙ tell.free;
        by_move = w.by_move ∙ sym (ap (λ (d : Deed). d.moved) deed);
        lives = lives_if p none;
        order = (omega (arith, since, noted), omega (arith, noted, tick));
        end = subst (λ (k : ℕ). EndsNotBefore (run_in p) k) tell.ticks (subst (λ (o : alone.Origin). EndsNotBefore o (ticks_of t.parcel)) run t.before_end);
        moves = λ k le lt s. let z : ⊥ = omega (arith, le, lt, noted) in absurd z;
        moved = λ e. (there, tick ∙ sym since, moved ∙ e);
        done = λ x y e. sym moved ∙ e;
        lively = λ e. none;
        later = λ e. let z : ⊥ = cc in absurd z;
        stays = w.stays ∙ sym (ap (λ (d : Deed). d.stays) deed);
        chained =
            subst (λ (k : ℕ). chains (first_tick (run_in p).resume) b.stays.items k ≡ true) (sym w.since)
            (subst (λ (xs : List Stay). chains (first_tick (run_in p).resume) xs (ticks_of t.parcel) ≡ true) (sym w.stays)
            (subst (λ (o : alone.Origin). chains (first_tick o.resume) t.stays.items (ticks_of t.parcel) ≡ true) run t.chained));
        room = w.room;
      };
      since = since ∙ sym tick;
      noted = noted ∙ sym tick;
    }

abbrev entry_of : ℕ → Transit → Entry
entry_of k t = record { seat = k; kind = Line; tenant = number_of t.parcel; from = ticks_of t.parcel; to = ticks_of t.parcel }

may_line : (g : ℕ) (q : Place) (n : Note) → q ≡ Away → is_some (deed_in n) ≡ true → n.entry.to ≡ n.entry.from → May g Line q n
may_line g q n away d e = subst (λ (r : Place). May g Line r n) (sym away) (d, e)

-- what is told then
pub told_line : (l : Label) (notes : List Note) (n : Note) (bs ws : List Berth) (b : Berth) (t : Transit) (k : ℕ) → n.entry ≡ entry_of k t → deed_in n ≡ Some (deed_of t) → IsNew b t → IsTold l notes bs ws
    → (l.any_puts ≡ false → k ≡ 0) → within (cost_of (deed_of t)) l.capacity ≡ true → place_of (number_of t.parcel) (seats bs ws) ≡ Away → IsTold l (notes ++ n ∷ []) bs (ws ++ b ∷ [])
told_line l notes n bs ws b t k e d w h first fits away =
    told_next l notes n bs ws bs (ws ++ b ∷ []) Line (ap (λ (x : Entry). x.kind) e) h
    (may_line l.fabric (place_of n.entry.tenant (seats bs ws)) n (ap (λ (x : Entry). place_of x.tenant (seats bs ws)) e ∙ away) (ap is_some d)
    (ap (λ (x : Entry). x.to) e ∙ sym (ap (λ (x : Entry). x.from) e)))
    (ap (fits_alone l.capacity) d ∙ fits)
    (append_assoc (map (seat true) bs) (map (seat false) ws) (in_line n.entry (deed_in n))
    ∙ ap (λ (s : List Seat). map (seat true) bs ++ (map (seat false) ws ++ s)) last
    ∙ ap (λ (zs : List Seat). map (seat true) bs ++ zs) (sym (map_push (seat false) ws b)))
    (λ o i. ap (λ (x : Entry). x.seat) e ∙ first o)
  where
    last : in_line n.entry (deed_in n) ≡ seat false b ∷ []
    last =
        ap (λ (x : Entry). in_line x (deed_in n)) e ∙ ap (in_line (entry_of k t)) d
        ∙ (λ i. record { tenant = sym w.tenant i; since = sym w.since i; now = sym w.noted i; came = false; deed = sym (ap deed_of w.line) i } ∷ [])

-- a core with one more in its line, whose note is written
pub record IsPutIn (k : ℕ) (x z : NotedCore) (b : Berth) (t : Transit) (n : Note) : Type 0 where
  pub label : z.label ≡ x.label
  pub notes : z.notes.items ≡ x.notes.items ++ n ∷ []
  pub berths : z.berths.items ≡ x.berths.items
  pub waiting : z.waiting.items ≡ x.waiting.items ++ b ∷ []
  pub new : IsNew b t
  pub entry : n.entry ≡ entry_of k t
  pub deed : deed_in n ≡ Some (deed_of t)
  pub few : number_of t.parcel < x.label.tenants
  pub first : x.label.any_puts ≡ false → k ≡ 0
  pub fits : within (cost_of (deed_of t)) x.label.capacity ≡ true
  pub away : IsAway x.notes.items (number_of t.parcel)

pub put_noted : (k : ℕ) (x z : NotedCore) (b : Berth) (t : Transit) (n : Note) (f : Fabric) (p : Point) → IsPutIn k x z b t n → IsNoted x f → IsPointOf t.parcel p → ended p ≡ None
    → IsFabric z.core (arrived p f) → IsNoted z (arrived p f)
put_noted k x z b t n f p w h at none core =
    noted_by z x.label (x.notes.items ++ n ∷ []) x.berths.items (x.waiting.items ++ b ∷ []) (arrived p f) w.label w.notes w.berths w.waiting core h.capacity h.residents
    (waiters_snoc x.label.tenants x.waiting.items f.line b p h.line (new_waiter x.label.tenants b t p w.new w.few at none))
    (told_line x.label x.notes.items n x.berths.items x.waiting.items b t k w.entry w.deed w.new (told_of x f h) w.first w.fits (ap (place_of (number_of t.parcel)) (sym h.replayed) ∙ w.away))

-- ---- who is there

pub away_of : (x : NotedCore) (f : Fabric) (t : ℕ) → IsNoted x f → (is_some (position (λ b. b.tenant == t) x.berths.items) || is_some (position (λ b. b.tenant == t) x.waiting.items)) ≡ false
    → IsAway x.notes.items t
away_of x f t h e = ap (place_of t) h.replayed ∙ away_if t x.berths.items x.waiting.items e

pub here_of : (x : NotedCore) (f : Fabric) (t : ℕ) → IsNoted x f → (is_some (position (λ b. b.tenant == t) x.berths.items) || is_some (position (λ b. b.tenant == t) x.waiting.items)) ≡ true
    → place_of t (replay [] x.notes.items) ≢ Away
here_of x f t h e = λ a. here_if t x.berths.items x.waiting.items e (ap (place_of t) (sym h.replayed) ∙ a)

-- ---- what is given back

-- transits with one parcel and one list of stays, both of residents or neither, are one
pub same_transit : (a b : Transit) → a.parcel ≡ b.parcel → a.stays ≡ b.stays → a.resident ≡ b.resident → a ≡ b
same_transit a b p s r = λ i. record {
  parcel = p i;
  stays = s i;
  resident = r i;
  chained = is_prop→PathP (λ j. chains (first_tick (run_of (p j)).resume) (s j).items (ticks_of (p j)) ≡ true) (λ j. hlevel props) a.chained b.chained i;
  before_end = is_prop→PathP (λ j. EndsNotBefore (run_of (p j)) (ticks_of (p j))) (λ j. hlevel props) a.before_end b.before_end i;
}

pub back_chained : (t : Transit) (q : Parcel) → q ≡ t.parcel → chains (first_tick (run_of q).resume) t.stays.items (ticks_of q) ≡ true
back_chained t q e = subst (λ (r : Parcel). chains (first_tick (run_of r).resume) t.stays.items (ticks_of r) ≡ true) (sym e) t.chained

pub back_end : (t : Transit) (q : Parcel) → q ≡ t.parcel → EndsNotBefore (run_of q) (ticks_of q)
back_end t q e = subst (λ (r : Parcel). EndsNotBefore (run_of r) (ticks_of r)) (sym e) t.before_end
