-- Nonblocking assignments to the spots of targets (IEEE 1364-2005, clause 9.2.2).
use Rattle.std.proofs.Common.{◌≡◌, ℕ, ◌+◌, ◌/◌, ◌%◌, ◌^◌, ◌<◌, ◌≤◌, List, [], ◌∷◌, ◌++◌, map, length, drop, get_or, sym, ap, ◌∙◌, arith, subst, append_assoc, append-nil, ◌-◌, Bool, true, false}
use Rattle.std.specs.Prelude.{All}
use Rattle.std.proofs.lemmas.List.{drop_all, drop_more}
use Rattle.vl_design.specs.Width.{Names}
use Rattle.vl_design.specs.Targets as t
use Rattle.vl_design.specs.State.{Update}
use Rattle.cell_emit.specs.cell_form.specs.Data.{ListData, BankData}
use Rattle.cell_emit.specs.Slots.{held, IsIn, Gives, Nothing}
use Rattle.cell_emit.proofs.Frames.{in-stays, longer-grows, longer-then}
use Rattle.cell_emit.specs.Pendings.{PendingSlots, ArePending}
use Rattle.cell_emit.specs.Delays.{Delays}
use Rattle.cell_emit.proofs.Following.{delays-none, delays-more, delays-behind, delays-as, delays-wider}
use Rattle.cell_expr.specs.declared.spot.Spot.{Spot}
use Rattle.cell_expr.specs.Spots.{memory_at, spot_cells, IsSpot, spot_in, update_of, bits_of, cells_of, stored_by, has_word, has_index}
use Rattle.cell_expr.proofs.Spotting.{first-and-others}
use Rattle.cell_expr.specs.Counts.{part_count}
use Rattle.cell_emit.specs.Paths.{low_of}

-- the bits of a part, and the cells that make its update pending
few : (x : Spot) → 1 + (spot_cells true x - 1) ≤ spot_cells true x
few x = some (has_word x.word) (has_index (low_of x.low))
  where
    some : (p q : Bool) → 1 + (part_count true p q - 1) ≤ part_count true p q
    some true q = omega arith
    some false true = omega arith
    some false false = omega arith

pub delays-spot : (names : Names) (first m value off part : ℕ) (x : Spot) (xs : List Spot) (p0 p1 p2 : PendingSlots) (l0 l1 l2 l3 : ListData) → ArePending names l0 p0 → IsIn l0 off → IsIn l0 value → All (IsSpot names first l0) (x ∷ xs) →
    Gives Nothing 1 l0 l1 part x.width (λ b. held b l0 value / 2 ^ bits_of xs % 2 ^ x.width) →
    Delays names (spot_cells true x - 1) (λ b. update_of names.rows b l1 x part ∷ []) off p0 p1 l1 l2 →
    Delays names m (λ b. t.updates_at (map (spot_in names.rows b l2) xs) (held b l2 value)) off p1 p2 l2 l3 →
    Delays names (spot_cells true x + m) (λ b. t.updates_at (map (spot_in names.rows b l0) (x ∷ xs)) (held b l0 value)) off p0 p2 l0 l3
delays-spot names first m value off part x xs p0 p1 p2 l0 l1 l2 l3 pending k there spots g a d =
    let rows = names.rows in
    let n = spot_cells true x - 1 in
    let more = few x in
    let g01 = longer-grows Nothing 1 l0 l1 g.longer in
    let g02 = longer-grows Nothing (1 + n) l0 l2 (longer-then Nothing 1 n l0 l1 l2 g.longer a.longer) in
    let F : BankData → List Update = λ b. update_of rows b l1 x part ∷ t.updates_at (map (spot_in rows b l2) xs) (held b l2 value) in
    let G : BankData → List Update = λ b. t.updates_at (map (spot_in rows b l0) (x ∷ xs)) (held b l0 value) in
    delays-wider names (1 + (n + m)) (spot_cells true x + m) G off p0 p2 l0 l3 (omega (arith, more))
    (delays-as names (1 + (n + m)) F G off p0 p2 l0 l3 (λ s b sound. first-and-others names first value part x xs b s l0 l1 l2 there spots g02 sound g)
    (delays-behind names 1 (n + m) F off p0 p2 l0 l1 l3 pending k g.longer
    (delays-more names n m (λ b. update_of rows b l1 x part ∷ []) (λ b. t.updates_at (map (spot_in rows b l2) xs) (held b l2 value)) off p0 p1 p2 l1 l2 l3 (in-stays l0 l1 off g01 k) a d)))

-- the spots that are left are written where the first of them is, and then the others
pub delays-left : (names : Names) (first value off part : ℕ) (spots : List Spot) (i : ℕ) (d : Spot) (p0 p1 p2 : PendingSlots) (l0 l1 l2 l3 : ListData) → i < length spots → ArePending names l0 p0 → IsIn l0 off → IsIn l0 value → All (IsSpot names first l0) (drop i spots) →
    Gives Nothing 1 l0 l1 part (get_or spots i d).width (λ b. held b l0 value / 2 ^ bits_of (drop (i + 1) spots) % 2 ^ (get_or spots i d).width) →
    Delays names (spot_cells true (get_or spots i d) - 1) (λ b. update_of names.rows b l1 (get_or spots i d) part ∷ []) off p0 p1 l1 l2 →
    Delays names (cells_of true (drop (i + 1) spots)) (λ b. t.updates_at (map (spot_in names.rows b l2) (drop (i + 1) spots)) (held b l2 value)) off p1 p2 l2 l3 →
    Delays names (cells_of true (drop i spots)) (λ b. t.updates_at (map (spot_in names.rows b l0) (drop i spots)) (held b l0 value)) off p0 p2 l0 l3
delays-left names first value off part spots i d p0 p1 p2 l0 l1 l2 l3 h pending k there all g a more =
    let e = drop_more spots i d h in
    let x = get_or spots i d in
    let xs = drop (i + 1) spots in
    let F : List Spot → Type 0 = λ zs. Delays names (cells_of true zs) (λ b. t.updates_at (map (spot_in names.rows b l0) zs) (held b l0 value)) off p0 p2 l0 l3 in
    subst F (sym e)
    (delays-wider names (spot_cells true x + cells_of true xs) (cells_of true (x ∷ xs)) (λ b. t.updates_at (map (spot_in names.rows b l0) (x ∷ xs)) (held b l0 value)) off p0 p2 l0 l3 (omega arith)
    (delays-spot names first (cells_of true xs) value off part x xs p0 p1 p2 l0 l1 l2 l3 pending k there (subst (All (IsSpot names first l0)) e all) g a more))

pub delays-over : (names : Names) (value off : ℕ) (spots : List Spot) (i : ℕ) (p : PendingSlots) (l : ListData) → length spots ≤ i → ArePending names l p →
    Delays names (cells_of true (drop i spots)) (λ b. t.updates_at (map (spot_in names.rows b l) (drop i spots)) (held b l value)) off p p l l
delays-over names value off spots i p l h pending =
    let F : List Spot → Type 0 = λ zs. Delays names (cells_of true zs) (λ b. t.updates_at (map (spot_in names.rows b l) zs) (held b l value)) off p p l l in
    subst F (sym (drop_all i spots h)) (delays-none names off p l pending)

-- ---- the memories whose words are written

-- those of the spots that are left are that of the first of them, and those of the others
pub sites-left : (spots : List Spot) (i : ℕ) (d : Spot) (ms ns all : List ℕ) → i < length spots → ns ≡ ms ++ memory_at (get_or spots i d).signal (get_or spots i d).word → ms ++ stored_by (drop i spots) ≡ all → ns ++ stored_by (drop (i + 1) spots) ≡ all
sites-left spots i d ms ns all h e is =
    let x = get_or spots i d in
    let xs = drop (i + 1) spots in
    ap (λ z. z ++ stored_by xs) e ∙ append_assoc ms (memory_at x.signal x.word) (stored_by xs) ∙ ap (λ zs. ms ++ stored_by zs) (sym (drop_more spots i d h)) ∙ is

pub sites-over : (spots : List Spot) (i : ℕ) (ms all : List ℕ) → length spots ≤ i → ms ++ stored_by (drop i spots) ≡ all → ms ≡ all
sites-over spots i ms all h is = sym (append-nil ms) ∙ ap (λ zs. ms ++ stored_by zs) (sym (drop_all i spots h)) ∙ is
