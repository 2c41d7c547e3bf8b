-- Tenants that the ledger takes over.
use Rattle.std.proofs.Common.{rules, ◌≡◌, inl, ℕ, Bool, true, false, List, [], ◌∷◌, ◌++◌, length, reverse, take, drop, refl, sym, ap, ◌∙◌, subst, arith, Option, Some, None}
use Rattle.std.specs.List.{insert}
use Rattle.std.specs.Prelude.{All, Vec, is_some, IfSome, IsNone, if◌then◌else◌, slice_get, IfOk, OnOk, Result, Ok, Err}
use Rattle.std.specs.declared.alloc.Global.{Global}
use Rattle.std.proofs.lemmas.Bool.{false≢true}
use Rattle.std.proofs.lemmas.List.Elements.{All-append, All-cons, All-drop, All-head, All-nil, All-push, All-tail, All-take}
use Rattle.std.proofs.lemmas.List.{length-append, reverse-append}
use Rattle.std.proofs.lemmas.Option.{get_or_from_slice_get, none-some}
use Rattle.fab_core.specs.vl_design.specs.declared.design.End.{End}
use Rattle.fab_core.specs.vl_design.specs.declared.design.End.TheVariants.{Stopped}
use Rattle.fab_core.specs.vl_design.specs.Alone as alone
use Rattle.fab_core.specs.vl_design.specs.Alone.{reason_at, Boundary, Ends}
use Rattle.fab_core.specs.vl_design.specs.Queue.{Queue}
use Rattle.fab_core.specs.ten_core.specs.Tenants.{origin_of}
use Rattle.fab_core.specs.ten_parcel.specs.declared.parcel.Parcel.{Parcel}
use Rattle.fab_core.specs.ten_parcel.specs.Parcels.{is_moved, is_stopped, number_of, run_of, ticks_of, IsParcel, IsTenant}
use Rattle.fab_core.specs.ten_plan.specs.Plans.{move_at}
use Rattle.fab_core.specs.ten_shell.specs.declared.shell.Why.TheVariants.{Ended, Move}
use Rattle.fab_core.specs.ten_shell.specs.Leaving.{why_of}
use Rattle.fab_core.specs.fab_model.specs.Points.{ended, rests, run_in, Point}
use Rattle.fab_core.specs.Standing.{IsPointOf}
use Rattle.fab_core.proofs.Arriving.{parcel_is}
use Rattle.fab_core.proofs.Parcels.{moved_is, origin_is, stopped_is, ticks_is}
use Rattle.fab_core.specs.fab_model.specs.declared.transit.Stay.{Stay}
use Rattle.fab_core.specs.fab_model.specs.declared.transit.Transit.{Transit}
use Rattle.fab_core.specs.fab_model.specs.Moves.{ends_idle}
use Rattle.fab_core.specs.fab_model.specs.Stays.{is_idle}
use Rattle.fab_core.specs.fab_model.specs.Tokens.{token_of}
use Rattle.fab_desk.specs.fab_bay.specs.declared.noted.Label.{Label}
use Rattle.fab_rounds.specs.declared.ledgers.Ledger.{Ledger}
use Rattle.fab_rounds.specs.declared.ledgers.Moving.{Moving}
use Rattle.fab_orders.specs.declared.outcomes.Answer.{Answer}
use Rattle.fab_orders.specs.declared.outcomes.Reason.TheVariants.{First, Errand}
use Rattle.fab_orders.specs.declared.outcomes.Start.{Start}
use Rattle.fab_orders.specs.Totals.{total}
use Rattle.fab_orders.specs.Starts.{AreStarts, IsOwn, IsStart}
use Rattle.fab_rounds.specs.Ledgers.{HasEnded, IsKept, IsLeft, IsMoving, TakesOver}
use Rattle.fab_rounds.proofs.Kept.{more_answers}
use Rattle.fab_orders.proofs.Totals.{total-insert}
use Rattle.fab_rounds.proofs.Lists.{own_start, start_of}
use Rattle.fab_core.specs.fab_model.proofs.Passing.{ends-snoc as last_idle}
use Rattle.fab_core.specs.vl_design.proofs.Shared.{none_of}

pub All-insert : {X : Type 0} (P : X → Type 0) (xs : List X) (i : ℕ) (x : X) → All P xs → P x → All P (insert xs i x)
All-insert P xs i x h p = All-append P (take i xs) (x ∷ drop i xs) (All-take P i xs h) (All-cons P x (drop i xs) p (All-drop P i xs h))

pub all_before : {X : Type 0} (P : X → Type 0) (xs ys : List X) → All P (xs ++ ys) → All P xs
all_before P [] ys h = All-nil P
all_before P (x ∷ xs) ys h = All-cons P x xs (All-head P x (xs ++ ys) h) (all_before P xs ys (All-tail P x (xs ++ ys) h))

pub all_behind : {X : Type 0} (P : X → Type 0) (xs ys : List X) → All P (xs ++ ys) → All P ys
all_behind P [] ys h = h
all_behind P (x ∷ xs) ys h = all_behind P xs ys (All-tail P x (xs ++ ys) h)

pub all_last : {X : Type 0} (P : X → Type 0) (xs : List X) (x : X) → All P (xs ++ x ∷ []) → P x
all_last P xs x h = All-head P x [] (all_behind P xs (x ∷ []) h)

pub all_reverse : {X : Type 0} (P : X → Type 0) (xs : List X) → All P xs → All P (reverse xs)
all_reverse P [] h = All-nil P
all_reverse P (x ∷ xs) h = subst (All P) (sym (reverse-append (x ∷ []) xs)) (All-push P (reverse xs) x (all_reverse P xs (All-tail P x xs h)) (All-head P x xs h))

-- what follows from what a call gives
pub on_ok : {T E P Q : Type 0} (r : Result T E) → (P → Q) → OnOk r P → OnOk r Q
on_ok (Ok x) f h = f h
on_ok (Err e) f h = h

pub both_ok : {T E P Q R : Type 0} (r : Result T E) → (P → Q → R) → OnOk r P → OnOk r Q → OnOk r R
both_ok (Ok x) f p q = f p q
both_ok (Err e) f p q = p

pub from_ok : {T E : Type 0} (P : T → Type 0) (r : Result T E) (x : T) → r ≡ Ok x → IfOk r P → P x
from_ok {T} {E} P r x e h = subst (λ (q : Result T E). IfOk q P) e h

-- without the last
pub all_pop : {X : Type 0} (P : X → Type 0) (ys xs : List X) (x : X) → ys ≡ xs ++ x ∷ [] → All P ys → All P xs × P x
all_pop P ys xs x e h = let a = subst (All P) e h in (all_before P xs (x ∷ []) a, all_last P xs x a)

-- ---- one more that moves, or that has ended

pub takes_moving : (l : Ledger) (v : Vec Moving Global) (m : Moving) → IsKept l → IsMoving l.loaded.value.items l.labels.value.items m → ((i : ℕ) × (v.items ≡ insert l.moving.items i m))
    → TakesOver l (record l { moving = v }) (λ f. f (token_of m.transit))
takes_moving l v m k h at = record {
  kept = record {
    labels = k.labels;
    starts = k.starts;
    moving = subst (All (IsMoving l.loaded.value.items l.labels.value.items)) (sym at.1) (All-insert (IsMoving l.loaded.value.items l.labels.value.items) l.moving.items at.0 m k.moving h);
    done = k.done;
    causes = k.causes;
    caused = k.caused;
    found = k.found;
    asked = k.asked;
    orders = k.orders;
    answers = k.answers;
    over = k.over;
    far = k.far;
    watches = k.watches;
  };
  same = (refl, refl, refl);
  answers = (refl, refl);
  firsts = refl;
  sums = λ f. omega (arith, ap (total (λ (x : Moving). f (token_of x.transit))) at.1, total-insert (λ (x : Moving). f (token_of x.transit)) l.moving.items at.0 m);
}

pub takes_done : (l : Ledger) (v : Vec Transit Global) (t : Transit) → IsKept l → HasEnded l.loaded.value.items l.answers.items t → ((i : ℕ) × (v.items ≡ insert l.done.items i t))
    → TakesOver l (record l { done = v }) (λ f. f (token_of t))
takes_done l v t k h at = record {
  kept = record {
    labels = k.labels;
    starts = k.starts;
    moving = k.moving;
    done = subst (All (HasEnded l.loaded.value.items l.answers.items)) (sym at.1) (All-insert (HasEnded l.loaded.value.items l.answers.items) l.done.items at.0 t k.done h);
    causes = k.causes;
    caused = k.caused;
    found = k.found;
    asked = k.asked;
    orders = k.orders;
    answers = more_answers l.loaded.value.items l.causes.items l.causes.items l.done.items v.items (λ n. omega arith) (λ f. omega (arith, ap (total f) at.1, total-insert f l.done.items at.0 t)) l.answers.items k.answers;
    over = λ f. omega (arith, k.over f, ap (total (λ (x : Transit). f (token_of x))) at.1, total-insert (λ (x : Transit). f (token_of x)) l.done.items at.0 t);
    far = k.far;
    watches = k.watches;
  };
  same = (refl, refl, refl);
  answers = (refl, refl);
  firsts = refl;
  sums = λ f. omega (arith, ap (total (λ (x : Transit). f (token_of x))) at.1, total-insert (λ (x : Transit). f (token_of x)) l.done.items at.0 t);
}

-- ---- one that came out

moves_by : (rest : Bool) (x : Option End) (to : Option ℕ) (m : Bool) (g : ℕ) → (if rest then why_of x to m else None) ≡ Some (Move g) → (x ≡ None) × (to ≡ Some g)
moves_by true (Some end) to m g e = let z : ⊥ = cc in absurd z
moves_by true None (Some h) false g e = (refl, cc)
moves_by true None (Some h) true g e = let z : ⊥ = cc in absurd z
moves_by true None None m g e = let z : ⊥ = cc in absurd z
moves_by false x to m g e = let z : ⊥ = cc in absurd z

ends_by : (rest : Bool) (x : Option End) (to : Option ℕ) (m : Bool) (end : End) → (if rest then why_of x to m else None) ≡ Some (Ended end) → x ≡ Some end
ends_by true (Some e) to m end h = cc
ends_by true None (Some h') false end h = let z : ⊥ = cc in absurd z
ends_by true None (Some h') true end h = let z : ⊥ = cc in absurd z
ends_by true None None m end h = let z : ⊥ = cc in absurd z
ends_by false x to m end h = let z : ⊥ = cc in absurd z

never_nil : (xs : List Stay) (x : Stay) → xs ++ x ∷ [] ≡ [] → ⊥
never_nil xs x e = omega (arith, ap length e, length-append xs (x ∷ []))

-- it moves
pub left_moves : (starts : List Start) (labels : List Label) (t : Transit) (g : ℕ) → AreStarts labels starts → IsLeft starts (record { transit = t; why = Move g })
    → ((q : Parcel) (p : Point) (b : Queue) → IsPointOf q p → Boundary (run_of q) (ticks_of q) b → ended p ≡ (if is_stopped q then Some Stopped else reason_at (run_of q).plan (ticks_of q) b))
    → IsMoving starts labels (record { reason = Errand; fabric = g; transit = t })
left_moves starts labels t g a h told =
    let last = h.left.4 in
    let p = h.left.0 in
    let here = h.left.1 in
    let s = moves_by (rests p) (ended p) (move_at p.stage.state.ticks (run_in p).plan.errands) p.moved g h.left.2 in
    let q : Point = record p { moved = true } in
    let run : run_of t.parcel ≡ run_in p = ap origin_of (origin_is t.parcel q here) in
    let move : move_at (ticks_of t.parcel) (run_of t.parcel).plan.errands ≡ Some g =
    ap (λ (k : ℕ). move_at k (run_of t.parcel).plan.errands) (ticks_is t.parcel q here) ∙ ap (λ (o : alone.Origin). move_at p.stage.state.ticks o.plan.errands) run ∙ s.1 in
    record {
      point = (q, here, s.0);
      own = h.own;
      place = own_start starts labels t.parcel a h.own (ticks_of t.parcel) g move;
      reason = record {
        own = h.own;
        moved = moved_is t.parcel q here;
        move = move;
        unended = λ e b ends.
            none-some e (sym s.0 ∙ told t.parcel q b here ends.at ∙ ap (λ (x : Bool). if x then Some Stopped else reason_at (run_of t.parcel).plan (ticks_of t.parcel) b) (stopped_is t.parcel q here ∙ h.left.3) ∙ ends.why);
        resident = last.resident;
        busy = ap ends_idle last.stays ∙ last_idle last.before last.stay ∙ last.busy refl;
      };
    }

over_at : (starts : List Start) (told : List Answer) (t : Transit) (p : Point) (end : Option End) → IsPointOf t.parcel p → p.stopped ≡ false → is_moved t.parcel ≡ false → (t.stays.items ≡ [] → ⊥) → IsOwn starts t.parcel → is_some end ≡ true
    → IfSome end (λ e. is_stopped t.parcel ≡ false → (q : Queue) × Ends (run_of t.parcel) (ticks_of t.parcel) e q) → HasEnded starts told t
over_at starts told t p (Some e) here stopped moved stayed own some h = let s = stopped_is t.parcel p here ∙ stopped in let x = h s in record {
  parcel = parcel_is t.parcel p here;
  own = own;
  first = λ n d. absurd (stayed n);
  withdrawn = λ m. absurd (false≢true (sym moved ∙ m));
  why = inl (s, moved, e, x.0, x.1);
}
over_at starts told t p None here stopped moved stayed own some h = let z : ⊥ = cc in absurd z

-- it has ended
pub left_ended : (starts : List Start) (told : List Answer) (t : Transit) (x : End) (end : Option End) → IsLeft starts (record { transit = t; why = Ended x }) → is_some end ≡ true
    → IfSome end (λ e. is_stopped t.parcel ≡ false → (q : Queue) × Ends (run_of t.parcel) (ticks_of t.parcel) e q) → HasEnded starts told t
left_ended starts told t x end h some e = over_at starts told t h.left.0 end h.left.1 h.left.3 h.left.4.flag (λ n. never_nil h.left.4.before h.left.4.stay (sym h.left.4.stays ∙ n)) h.own some e

-- ---- one that is loaded

is_none_of : (e : Option End) → is_some e ≡ false → IsNone e
is_none_of None n = search rules
is_none_of (Some e) n = let z : ⊥ = cc in absurd z

-- it hasn't ended
pub start_moves : (starts : List Start) (labels : List Label) (g : ℕ) (t : Transit) (end : Option End) → IsStart labels (number_of t.parcel) (record { fabric = g; transit = t }) → slice_get starts (number_of t.parcel) ≡ Some (record { fabric = g; transit = t })
    → is_some end ≡ false
    → ((q : Parcel) → IsParcel q → IsTenant q → (p : Point) × IsPointOf q p)
    → ((q : Parcel) (p : Point) → IsPointOf q p → (b : Queue) × Boundary (run_of q) (ticks_of q) b × (b.state ≡ p.stage.state))
    → ((q : Parcel) (p : Point) (b : Queue) → IsPointOf q p → Boundary (run_of q) (ticks_of q) b → ended p ≡ (if is_stopped q then Some Stopped else reason_at (run_of q).plan (ticks_of q) b))
    → ((q : Queue) → Boundary (run_of t.parcel) (ticks_of t.parcel) q → end ≡ (if is_stopped t.parcel then Some Stopped else reason_at (run_of t.parcel).plan (ticks_of t.parcel) q))
    → (IsNone end → IsTenant t.parcel)
    → IsMoving starts labels (record { reason = First; fabric = g; transit = t })
start_moves starts labels g t end s at none points boundary told reason tenant =
    let no = none_of end none in
    let p = points t.parcel s.parcel (tenant (is_none_of end none)) in
    let b = boundary t.parcel p.0 p.1 in
    record {
      point = (p.0, p.1, told t.parcel p.0 b.0 p.1 b.1 ∙ sym (reason b.0 b.1) ∙ no);
      own = start_of starts (record { fabric = g; transit = t }) (number_of t.parcel) at;
      place = s.place;
      reason = (
        at,
        λ e q ends. none-some e (sym no ∙ reason q ends.at ∙ ap (λ (x : Bool). if x then Some Stopped else reason_at (run_of t.parcel).plan (ticks_of t.parcel) q) s.stopped ∙ ends.why),
      );
    }

-- it has ended
pub start_ended : (starts : List Start) (labels : List Label) (told : List Answer) (s : Start) (end : Option End) → IsStart labels (number_of s.transit.parcel) s → slice_get starts (number_of s.transit.parcel) ≡ Some s → is_some end ≡ true
    → IfSome end (λ e. is_stopped s.transit.parcel ≡ false → (q : Queue) × Ends (run_of s.transit.parcel) (ticks_of s.transit.parcel) e q) → HasEnded starts told s.transit
start_ended starts labels told s (Some e) k at some h = let x = h k.stopped in record {
  parcel = k.parcel;
  own = start_of starts s (number_of s.transit.parcel) at;
  first = λ n d. ap (λ (y : Start). ticks_of y.transit.parcel) (sym (get_or_from_slice_get starts (number_of s.transit.parcel) s d at));
  withdrawn = λ m. absurd (false≢true (sym k.moved ∙ m));
  why = inl (k.stopped, k.moved, e, x.0, x.1);
}
start_ended starts labels told s None k at some h = let z : ⊥ = cc in absurd z
