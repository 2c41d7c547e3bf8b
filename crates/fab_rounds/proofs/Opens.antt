-- Desks that are opened, and tenants as they are loaded.
use Rattle.std.proofs.Common.{◌≡◌, ◌≢◌, ℕ, zero, suc, ◌<◌, List, [], ◌∷◌, ◌++◌, length, get_or, refl, sym, ap, ◌∙◌, subst, arith, Some}
use Rattle.std.specs.List.{insert}
use Rattle.std.specs.Prelude.{All, Vec, slice_get}
use Rattle.std.specs.declared.alloc.Global.{Global}
use Rattle.std.proofs.lemmas.List.Elements.{All-cons, All-nil}
use Rattle.std.proofs.lemmas.Option.{slice_get-get_or}
use Rattle.fab_core.specs.ten_parcel.specs.Parcels.{number_of}
use Rattle.fab_core.specs.fab_lock.specs.Facts.{IsSeatOf}
use Rattle.fab_core.specs.fab_lock.specs.Views.{first_view, lower_half, upper_half}
use Rattle.fab_desk.specs.fab_bay.specs.declared.noted.Label.{Label}
use Rattle.fab_desk.specs.Desks.{DeskView}
use Rattle.fab_orders.specs.declared.outcomes.Start.{Start}
use Rattle.fab_rounds.specs.declared.posts.Opened.{Opened}
use Rattle.fab_rounds.specs.declared.workers.Worker.{Worker}
use Rattle.fab_orders.specs.Starts.{AreStarts, IsStart}
use Rattle.fab_rounds.specs.Ledgers.{labels_of, AreFirsts, AreOut, DeskSeatFacts, DeskFacts, IsFirst, IsWorker}
use Rattle.fab_rounds.specs.Openings.{AreSeated, Opens}

-- ---- seats

pub first_low : (label : Label) (n : ℕ) (v w : DeskView) → v ≡ first_view label n → w ≡ lower_half v → (w.low ≡ 0) × (w.own ≡ [])
first_low label n v w e h = (ap (λ (x : DeskView). x.low) h ∙ ap (λ (x : DeskView). x.low) e, ap (λ (x : DeskView). x.own) h ∙ ap (λ (x : DeskView). x.own) e)

pub other_low : (label : Label) (n : ℕ) (v w : DeskView) → v ≡ first_view label n → w ≡ upper_half v → (w.low ≡ 2147483648) × (w.own ≡ [])
other_low label n v w e h = (ap (λ (x : DeskView). x.low) h ∙ ap (λ (x : DeskView). (upper_half x).low) e, ap (λ (x : DeskView). x.own) h)

-- ---- one desk more

module _ (label : Label) (o : Opened) (desks : Vec DeskFacts Global) (firsts : Vec DeskSeatFacts Global) (workers : Vec Worker Global) (desk : DeskFacts) (first : DeskSeatFacts) (w : Worker) (k : AreSeated o)
    (d-is : desks.items ≡ insert o.desks.items 0 desk) (f-is : firsts.items ≡ insert o.firsts.items 0 first) (w-is : workers.items ≡ insert o.workers.items 0 w) (label-is : desk.label ≡ label) (seat : IsFirst desk first)
    (fresh : first.view.own ≡ []) (other : IsSeatOf desk w.seat) (apart : w.seat.view.low ≢ 0) (fresh-other : w.seat.view.own ≡ []) (out : w.out.items ≡ []) (fabric : w.fabric ≡ label.fabric) where
  worker : IsWorker desk w
  worker = record { seat = other; apart = apart; out = subst (AreOut desk.label.origins) (sym out) (All-nil _) }

  each_first : (i : ℕ) (d : DeskFacts) (s : DeskSeatFacts) → i < length (desk ∷ o.desks.items) → IsFirst (get_or (desk ∷ o.desks.items) i d) (get_or (first ∷ o.firsts.items) i s)
  each_first zero d s l = seat
  each_first (suc i) d s l = k.firsts.each i d s (omega arith)

  each_worker : (i : ℕ) (d : DeskFacts) (x : Worker) → i < length (desk ∷ o.desks.items) → IsWorker (get_or (desk ∷ o.desks.items) i d) (get_or (w ∷ o.workers.items) i x)
  each_worker zero d x l = worker
  each_worker (suc i) d x l = k.each i d x (omega arith)

  each_fabric : (i : ℕ) (d : DeskFacts) (x : Worker) → i < length (desk ∷ o.desks.items) → (get_or (w ∷ o.workers.items) i x).fabric ≡ (get_or (desk ∷ o.desks.items) i d).label.fabric
  each_fabric zero d x l = fabric ∙ ap (λ (y : Label). y.fabric) (sym label-is)
  each_fabric (suc i) d x l = k.fabric i d x (omega arith)

  seated : (xs : List DeskFacts) (ys : List DeskSeatFacts) (zs : List Worker) → xs ≡ desk ∷ o.desks.items → ys ≡ first ∷ o.firsts.items → zs ≡ w ∷ o.workers.items → desks.items ≡ xs → firsts.items ≡ ys → workers.items ≡ zs
      → AreSeated (record { desks = desks; firsts = firsts; workers = workers })
  seated xs ys zs a b c x y z = record {
    firsts = subst (λ (l : List DeskFacts). AreFirsts l firsts.items) (sym (x ∙ a)) (subst (AreFirsts (desk ∷ o.desks.items)) (sym (y ∙ b)) (record { count = let n = k.firsts.count in omega (arith, n); each = each_first }));
    count = let n = k.count in omega (arith, ap length (z ∙ c), ap length (x ∙ a), n);
    fabric = subst (λ (l : List DeskFacts). (i : ℕ) (d : DeskFacts) (e : Worker) → i < length l → (get_or workers.items i e).fabric ≡ (get_or l i d).label.fabric) (sym (x ∙ a))
        (subst (λ (l : List Worker). (i : ℕ) (d : DeskFacts) (e : Worker) → i < length (desk ∷ o.desks.items) → (get_or l i e).fabric ≡ (get_or (desk ∷ o.desks.items) i d).label.fabric) (sym (z ∙ c)) each_fabric);
    each = subst (λ (l : List DeskFacts). (i : ℕ) (d : DeskFacts) (e : Worker) → i < length l → IsWorker (get_or l i d) (get_or workers.items i e)) (sym (x ∙ a))
        (subst (λ (l : List Worker). (i : ℕ) (d : DeskFacts) (e : Worker) → i < length (desk ∷ o.desks.items) → IsWorker (get_or (desk ∷ o.desks.items) i d) (get_or l i e)) (sym (z ∙ c)) each_worker);
    empty = subst (All (λ (e : Worker). e.out.items ≡ [])) (sym (z ∙ c)) (All-cons (λ (e : Worker). e.out.items ≡ []) w o.workers.items out k.empty);
    fresh = subst (All (λ (s : DeskSeatFacts). s.view.own ≡ [])) (sym (y ∙ b)) (All-cons (λ (s : DeskSeatFacts). s.view.own ≡ []) first o.firsts.items fresh k.fresh);
    fresh_workers = subst (All (λ (e : Worker). e.seat.view.own ≡ [])) (sym (z ∙ c)) (All-cons (λ (e : Worker). e.seat.view.own ≡ []) w o.workers.items fresh-other k.fresh_workers);
  }

  pub opens : Opens label o (record { desks = desks; firsts = firsts; workers = workers })
  opens = record {
    seated = seated (desk ∷ o.desks.items) (first ∷ o.firsts.items) (w ∷ o.workers.items) refl refl refl d-is f-is w-is;
    labels = ap labels_of d-is ∙ ap (λ (x : Label). x ∷ labels_of o.desks.items) label-is;
  }

-- ---- a tenant among those that are loaded

abbrev pub number_at : Start → ℕ
number_at s = number_of s.transit.parcel

mid : {X : Type 0} (xs ys : List X) (x d : X) → get_or ((xs ++ x ∷ []) ++ ys) (length xs) d ≡ x
mid [] ys x d = refl
mid (z ∷ xs) ys x d = mid xs ys x d

mid-long : {X : Type 0} (xs ys : List X) (x : X) → length xs < length ((xs ++ x ∷ []) ++ ys)
mid-long [] ys x = omega arith
mid-long (z ∷ xs) ys x = let l = mid-long xs ys x in omega (arith, l)

pub start_at : (labels : List Label) (all popped rest : List Start) (s : Start) → AreStarts labels all → all ≡ (popped ++ s ∷ []) ++ rest
    → IsStart labels (number_at s) s × (slice_get all (number_at s) ≡ Some s)
start_at labels all popped rest s a e =
    let n = length popped in
    let l : n < length all = subst (λ (x : List Start). n < length x) (sym e) (mid-long popped rest s) in
    let g : get_or all n s ≡ s = ap (λ (x : List Start). get_or x n s) e ∙ mid popped rest s s in
    let i : IsStart labels n s = subst (IsStart labels n) g (a n s l) in
    let k : slice_get all n ≡ Some s = slice_get-get_or all n s l ∙ ap Some g in
    (subst (λ (m : ℕ). IsStart labels m s) (sym i.number) i, ap (slice_get all) i.number ∙ k)
