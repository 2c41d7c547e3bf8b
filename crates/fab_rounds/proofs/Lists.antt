-- Lists of labels, starts and seats.
use Rattle.std.proofs.Common.{◌≡◌, ℕ, ◌<◌, List, [], ◌∷◌, ◌++◌, length, get_or, refl, sym, ap, ◌∙◌, subst, arith, Some}
use Rattle.std.specs.Prelude.{slice_get}
use Rattle.std.proofs.lemmas.List.{get_or-map, get_or_append_left, get_or_push, length-append, length-map}
use Rattle.std.proofs.lemmas.Option.{get_or_from_slice_get, slice_get-get_or, slice_get_within}
use Rattle.fab_core.specs.ten_core.specs.declared.origin.Origin.{Origin}
use Rattle.fab_core.specs.ten_core.specs.Tenants.{origin_of}
use Rattle.fab_core.specs.vl_design.specs.Costs.{saturated_cost}
use Rattle.fab_core.specs.vl_design.specs.Cost.{cost}
use Rattle.fab_core.specs.ten_parcel.specs.declared.parcel.Parcel.{Parcel}
use Rattle.fab_core.specs.ten_parcel.specs.Parcels.{number_of, origin_in, run_of}
use Rattle.fab_core.specs.ten_plan.specs.Plans.{move_at}
use Rattle.fab_core.specs.fab_model.specs.Fabrics.{within}
use Rattle.fab_desk.specs.fab_bay.specs.declared.noted.Label.{Label}
use Rattle.fab_orders.specs.declared.outcomes.Start.{Start}
use Rattle.fab_orders.specs.Starts.{origins_of, AreStarts, HasPlaceFor, IsOwn}

abbrev origin_at : Start → Origin
origin_at s = origin_in s.transit.parcel

-- a number for which an origin is named has a start
pub own_within : (starts : List Start) (p : Parcel) → IsOwn starts p → number_of p < length starts
own_within starts p o = omega (arith, slice_get_within (origins_of starts) (number_of p) (origin_in p) o, length-map starts origin_at)

pub own_origin : (starts : List Start) (p : Parcel) (d : Start) → IsOwn starts p → origin_in (get_or starts (number_of p) d).transit.parcel ≡ origin_in p
own_origin starts p d o =
    sym (get_or-map origin_at starts (number_of p) d (origin_in p) (own_within starts p o))
    ∙ get_or_from_slice_get (origins_of starts) (number_of p) (origin_in p) (origin_in p) o

-- wherever its plan moves it, there is a place for it
pub own_start : (starts : List Start) (labels : List Label) (p : Parcel) → AreStarts labels starts → IsOwn starts p → (k g : ℕ) → move_at k (run_of p).plan.errands ≡ Some g → HasPlaceFor labels g p
own_start [] labels p a o k g m = absurd (let l = own_within [] p o in omega (arith, l))
own_start (s ∷ ss) labels p a o k g m =
    let starts : List Start = s ∷ ss in
    let n = number_of p in
    let e = own_origin starts p s o in
    let q = (get_or starts n s).transit.parcel in
    let h = (a n s (own_within starts p o)).moves k g (ap (λ (x : Origin). move_at k (origin_of x).plan.errands) e ∙ m) in
    (h.0, λ d. ap (λ (x : Origin). within (saturated_cost (cost (origin_of x).flat)) (get_or labels g d).capacity) (sym e) ∙ h.1 d)

-- a start names its own origin
pub start_of : (starts : List Start) (s : Start) (n : ℕ) → slice_get starts n ≡ Some s → slice_get (origins_of starts) n ≡ Some (origin_in s.transit.parcel)
start_of starts s n e =
    let l = slice_get_within starts n s e in
    slice_get-get_or (origins_of starts) n (origin_at s) (omega (arith, l, length-map starts origin_at))
    ∙ ap Some (get_or-map origin_at starts n s (origin_at s) l ∙ ap origin_at (get_or_from_slice_get starts n s s e))

-- ---- two lists without their last members

pub pair_pop : {X Y : Type 0} (R : X → Y → Type 0) (xs xs' : List X) (x : X) (ys ys' : List Y) (y : Y) → xs ≡ xs' ++ x ∷ [] → ys ≡ ys' ++ y ∷ [] → length ys ≡ length xs
    → ((i : ℕ) (d : X) (e : Y) → i < length xs → R (get_or xs i d) (get_or ys i e))
    → ((i : ℕ) (d : X) (e : Y) → i < length xs' → R (get_or xs' i d) (get_or ys' i e)) × R x y × (length ys' ≡ length xs')
pair_pop {X} {Y} R xs xs' x ys ys' y p q n a =
    let m : length ys' ≡ length xs' = omega (arith, n, ap length p, ap length q, length-append xs' (x ∷ []), length-append ys' (y ∷ [])) in
    let b = subst (λ (l : List Y). (i : ℕ) (d : X) (e : Y) → i < length (xs' ++ x ∷ []) → R (get_or (xs' ++ x ∷ []) i d) (get_or l i e)) q
    (subst (λ (l : List X). (i : ℕ) (d : X) (e : Y) → i < length l → R (get_or l i d) (get_or ys i e)) p a) in (
      λ i d e l. subst (λ (u : X). R u (get_or ys' i e)) (get_or_append_left xs' (x ∷ []) d i l)
          (subst (λ (u : Y). R (get_or (xs' ++ x ∷ []) i d) u) (get_or_append_left ys' (y ∷ []) e i (omega (arith, l, m))) (b i d e (omega (arith, l, length-append xs' (x ∷ []))))),
      subst (λ (u : X). R u y) (get_or_push xs' x x (length xs') refl)
          (subst (λ (u : Y). R (get_or (xs' ++ x ∷ []) (length xs') x) u) (get_or_push ys' y y (length xs') m) (b (length xs') x y (omega (arith, length-append xs' (x ∷ []))))),
      m,
    )
