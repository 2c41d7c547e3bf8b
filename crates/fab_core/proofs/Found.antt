-- Where a tenant of a number is in a fabric, and what is left without it.
use Rattle.std.proofs.Common.{◌≡◌, ℕ, ◌<◌, List, [], ◌∷◌, length, get_or, arith, refl, ap, sym, ◌∙◌, suc, zero, true, false, ◌||◌, Bool, Some}
use Rattle.std.specs.Prelude.{is_some}
use Rattle.std.specs.List.{remove, slice_get}
use Rattle.std.proofs.lemmas.Bool.{and_parts, cond-true, cond-false, or_left, or_right}
use Rattle.std.proofs.lemmas.Option.{get_or_from_slice_get, slice_get-get_or}
use Rattle.vl_design.specs.declared.capacity.Cost.{Cost}
use Rattle.fab_join.specs.Parts.{part_at}
use Rattle.ten_shell.specs.declared.shell.Why.{Why}
use Rattle.ten_shell.specs.declared.shell.Why.TheVariants.{Ended, Move}
use Rattle.fab_model.specs.Points.{departed, rests, Point}
use Rattle.fab_model.specs.Fabrics.{first_of, found, has, is_still, left, taken, without, Fabric}
use Rattle.fab_model.specs.Worlds.{is_at_rest}
use Rattle.fab_core.specs.declared.cores.FabCore.{FabCore}
use Rattle.fab_core.specs.declared.resident.Resident.{Resident}
use Rattle.fab_core.specs.Standing.{IsFabric}
use Rattle.fab_core.proofs.Lists.{point_in, standing_at, standing_many}
use Rattle.fab_core.proofs.Places.{first_found, none_found, none_without, without_found, HasNone, IsFirst}
use Rattle.fab_core.proofs.Resting.{rests_other}

-- ---- in a fabric

module _ (t : ℕ) (f : Fabric) (k : ℕ) (h : IsFirst t f.residents k) where
  here_first : first_of t f.residents ≡ Some (get_or f.residents k (point_in f.residents k h.there))
  here_first = first_found t f.residents k (point_in f.residents k h.there) h

  here_some : is_some (first_of t f.residents) ≡ true
  here_some = ap is_some here_first

  pub taken_here : taken t f ≡ record f { residents = remove f.residents k }
  taken_here =
      cond-true (is_some (first_of t f.residents)) (record f { residents = without t f.residents }) (record f { line = without t f.line }) here_some
      ∙ ap (λ (ps : List Point). record f { residents = ps }) (without_found t f.residents k h)

  pub left_here : left t f ≡ record f { residents = remove f.residents k }
  left_here = ap (λ (ps : List Point). record f { residents = ps }) (without_found t f.residents k h)

  pub found_here : (d : Point) → found t f ≡ Some (get_or f.residents k d)
  found_here d = cond-true (is_some (first_of t f.residents)) (first_of t f.residents) (first_of t f.line) here_some ∙ first_found t f.residents k d h

  pub has_here : has t f ≡ true
  has_here = or_left (is_some (first_of t f.residents)) (is_some (first_of t f.line)) here_some

module _ (t : ℕ) (f : Fabric) (none : HasNone t f.residents) where
  none_some : is_some (first_of t f.residents) ≡ false
  none_some = ap is_some (none_found t f.residents none)

  pub taken_line : (k : ℕ) → IsFirst t f.line k → taken t f ≡ record f { line = remove f.line k }
  taken_line k h =
      cond-false (is_some (first_of t f.residents)) (record f { residents = without t f.residents }) (record f { line = without t f.line }) none_some
      ∙ ap (λ (ps : List Point). record f { line = ps }) (without_found t f.line k h)

  pub found_line : (k : ℕ) (d : Point) → IsFirst t f.line k → found t f ≡ Some (get_or f.line k d)
  found_line k d h = cond-false (is_some (first_of t f.residents)) (first_of t f.residents) (first_of t f.line) none_some ∙ first_found t f.line k d h

  pub has_line : (k : ℕ) → IsFirst t f.line k → has t f ≡ true
  has_line k h = or_right (is_some (first_of t f.residents)) (is_some (first_of t f.line)) (ap is_some (first_found t f.line k (point_in f.line k h.there) h))

  pub taken_none : HasNone t f.line → taken t f ≡ f
  taken_none h =
      cond-false (is_some (first_of t f.residents)) (record f { residents = without t f.residents }) (record f { line = without t f.line }) none_some
      ∙ ap (λ (ps : List Point). record f { line = ps }) (none_without t f.line h)

  pub has_none : HasNone t f.line → has t f ≡ false
  has_none h = ap (λ b. b || is_some (first_of t f.line)) none_some ∙ ap is_some (none_found t f.line h)

-- ---- residents at rest

still_list : (c : Cost) (line ps : List Point) (holding : Bool) (k : ℕ) (d : Point) → is_still (record { capacity = c; residents = ps; line = line; holding = holding }) ≡ true → k < length ps → rests (get_or ps k d) ≡ true
still_list c line [] holding k d h lt = absurd (omega arith)
still_list c line (p ∷ ps) holding zero d h lt = (and_parts (rests p) (is_still (record { capacity = c; residents = ps; line = line; holding = holding })) h).0
still_list c line (p ∷ ps) holding (suc k) d h lt = still_list c line ps holding k d (and_parts (rests p) (is_still (record { capacity = c; residents = ps; line = line; holding = holding })) h).1 (omega arith)

pub still_at : (f : Fabric) (k : ℕ) (d : Point) → is_at_rest f ≡ true → k < length f.residents → rests (get_or f.residents k d) ≡ true
still_at f k d h lt = still_list f.capacity f.line f.residents f.holding k d (and_parts f.holding (is_still f) h).1 lt

-- where the residents are at rest as points of one fabric, they are as those of another
pub still_other : (x : FabCore) (f g : Fabric) (k : ℕ) (d : Point) → IsFabric x f → IsFabric x g → is_at_rest f ≡ true → k < length g.residents → rests (get_or g.residents k d) ≡ true
still_other x f g k d h w still lt = at x.residents.items refl
  where
    at : (rs : List Resident) → x.residents.items ≡ rs → rests (get_or g.residents k d) ≡ true
    at [] e = let many = standing_many x.joined x.residents.items g.residents w.residents in let long = ap (λ (qs : List Resident). length qs) e in absurd (omega (arith, many, long, lt))
    at (r ∷ rs) e =
        let many = standing_many x.joined x.residents.items g.residents w.residents in
        let most = standing_many x.joined x.residents.items f.residents h.residents in
        let within : k < length x.residents.items = omega (arith, many, lt) in
        let q = get_or x.residents.items k r in
        rests_other q.tenant.shell (part_at x.joined q.part).bank (get_or f.residents k d) (get_or g.residents k d)
        (standing_at x.joined x.residents.items f.residents k r d h.residents within).point
        (standing_at x.joined x.residents.items g.residents k r d w.residents within).point
        (still_at f k d still (omega (arith, most, within)))

pub departed_rests : (why : Why) (p : Point) → rests p ≡ true → rests (departed why p) ≡ true
departed_rests (Ended end) p h = h
departed_rests (Move fabric) p h = h

-- the first resident of a number, by its place
pub first_point : (t : ℕ) (f : Fabric) (k : ℕ) (p : Point) → IsFirst t f.residents k → first_of t f.residents ≡ Some p → slice_get f.residents k ≡ Some p
first_point t f k p h e =
    let d : Point = point_in f.residents k h.there in
    slice_get-get_or f.residents k d h.there ∙ sym (first_found t f.residents k d h) ∙ e

pub first_rests : (x : FabCore) (f g : Fabric) (t k : ℕ) (p : Point) → IsFabric x f → IsFabric x g → is_at_rest f ≡ true → IsFirst t g.residents k → first_of t g.residents ≡ Some p → rests p ≡ true
first_rests x f g t k p h w still first e =
    ap rests (sym (get_or_from_slice_get g.residents k p p (first_point t g k p first e))) ∙ still_other x f g k p h w still first.there
