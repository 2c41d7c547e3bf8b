-- Spots of targets, and assignments to them.
use Rattle.std.proofs.Common.{◌≡◌, ℕ, suc, ◌+◌, ◌/◌, ◌%◌, ◌^◌, ◌<◌, ◌≤◌, min, ℤ, true, false, Option, Some, None, List, [], ◌∷◌, ◌++◌, map, length, drop, get_or, refl, sym, ap, ◌∙◌, arith, subst, mod-lt, mod-eq_of_lt}
use Rattle.std.specs.Prelude.{pos, All, ◌==◌, slice_get}
use Rattle.std.proofs.Math.Pow.{pow_pos}
use Rattle.std.proofs.lemmas.List.{drop_all, drop_more, map-append}
use Rattle.vl_base.specs.Value.{resized, reading}
use Rattle.vl_base.specs.Selects.{picked}
use Rattle.vl_design.specs.declared.design.Target.{Target as TargetCode}
use Rattle.vl_design.specs.Syntax.{Target, Whole, WordAt, PickAt, SliceAt, Several, Row}
use Rattle.vl_design.specs.Trees.{target_of}
use Rattle.vl_design.specs.Width.{Names}
use Rattle.vl_design.specs.Sound.{IsSignal, IsMemory, IsWidth, IsSoundTarget, AreSoundTargets}
use Rattle.vl_design.specs.Targets as t
use Rattle.vl_design.specs.Value.{word_at}
use Rattle.vl_design.specs.State.{Update, sample, all_updated}
use Rattle.vl_eval.proofs.Names.{named-width, signal-named, memory-named, named-there}
use Rattle.vl_eval.specs.declared.room.Room.{Room}
use Rattle.vl_eval.specs.Rooms as rooms
use Rattle.vl_design.specs.Rows.{row_of}
use Rattle.vl_run.specs.Lists.{targets_of}
use Rattle.vl_run.proofs.Spotting.{targets-more}
use Rattle.cell_emit.specs.cell_form.specs.Data.{ListData, BankData}
use Rattle.cell_emit.specs.cell_form.specs.Sound.{Shape}
use Rattle.cell_emit.specs.Slots.{held, width_at, IsIn, AreSound, Grows, Longer, Gives, Nothing}
use Rattle.cell_emit.proofs.Frames.{held-stays, in-stays, width-stays, longer-grows, longer-then, gives-weaken, gives-as}
use Rattle.cell_emit.specs.Counts.{resizes}
use Rattle.cell_emit.proofs.Assigning.{one-word}
use Rattle.cell_emit.specs.Envs.{Env, HasOneWord, Fits, Stands}
use Rattle.cell_emit.specs.Paths.{on, Low, Constant, By, IsLow, low_in, low_of, update_in, Assigns, Updates}
use Rattle.cell_emit.proofs.Staying.{stands-stays}
use Rattle.cell_emit.proofs.Walking.{updates-none, updates-more, updates-as, updates-wider, low-stays}
use Rattle.cell_expr.specs.declared.address.Address.{Address}
use Rattle.cell_expr.specs.declared.spot.Spot.{Spot}
use Rattle.cell_expr.specs.Spots.{IsOf, word_in, memory_at, spot_cells, IsSpot, spot_in, update_of, bits_of, cells_of, stored_by}

-- ---- lists

drop-is : (xs : List Spot) (i : ℕ) (x : Spot) → i < length xs → x ≡ get_or xs i x → drop i xs ≡ x ∷ drop (i + 1) xs
drop-is xs i x h e = drop_more xs i x h ∙ ap (λ y. y ∷ drop (i + 1) xs) (sym e)

pub bits-more : (xs : List Spot) (i : ℕ) (x : Spot) → i < length xs → x ≡ get_or xs i x → bits_of (drop i xs) ≡ x.width + bits_of (drop (i + 1) xs)
bits-more xs i x h e = ap bits_of (drop-is xs i x h e)

pub target-width : (names : Names) (x : Target) → IsSoundTarget names x → IsWidth (t.target_width names x)
target-width names (Whole k) h = named-width names k (signal-named names k h)
target-width names (WordAt m a) h = named-width names m (memory-named names m h.0)
target-width names (PickAt b i from w) h = h.0
target-width names (SliceAt b low w) h = h.0
target-width names (Several ts) h = h.0

pub first-target : (names : Names) (xs : List TargetCode) (i : ℕ) (x : TargetCode) → i < length xs → x ≡ get_or xs i x → AreSoundTargets names (targets_of (drop i xs)) → IsSoundTarget names (target_of x)
first-target names xs i x h e s = let k = rw (targets-more xs i x h e) at s in k.0

pub ruleset listed = (bits-more, targets-more, first-target, target-width, named-width, signal-named, memory-named, named-there)

-- ---- bits of a slot

same-width : (w : ℕ) → resizes w w ≡ 0
same-width w = let q : (w == w) ≡ true = grind arith in rw q refl

pub part-slice : (old new : ListData) (r source low width : ℕ) (z : ℤ) → z ≡ pos low → low ≤ width_at old source →
    Gives Nothing (1 + resizes width width) old new r width (λ b. resized false width width (picked (width_at old source) (held b old source) z width)) →
    Gives Nothing 1 old new r width (λ b. held b old source / 2 ^ low % 2 ^ width)
part-slice old new r source low width z e le g =
    let none = same-width width in
    gives-weaken Nothing Nothing (1 + resizes width width) 1 old new r width (λ b. held b old source / 2 ^ low % 2 ^ width) (λ s h. h) (omega (arith, none))
    (gives-as Nothing (1 + resizes width width) old new r width width (λ b. resized false width width (picked (width_at old source) (held b old source) z width)) (λ b. held b old source / 2 ^ low % 2 ^ width) refl
    (λ s b sound. (
    let m : min low (width_at old source) ≡ low = omega (arith, le) in
    ap (λ y. resized false width width (picked (width_at old source) (held b old source) y width)) e
    ∙ ap (λ y. held b old source / 2 ^ y % 2 ^ width % 2 ^ width) m
    ∙ mod-eq_of_lt (mod-lt (held b old source / 2 ^ low) (pow_pos width)))) g)

-- ---- spots stay

pub word-stays : (names : Names) (first : ℕ) (b : BankData) (old new : ListData) (k : ℕ) (word : Option Address) → Grows old new → IsOf names first old k word → word_in names.rows b new k word ≡ word_in names.rows b old k word
word-stays names first b old new k None g h = refl
word-stays names first b old new k (Some a) g h =
    ap (λ w. word_at (slice_get names.rows k) (reading a.signed w (held b new a.slot))) (width-stays old new a.slot g h.1)
    ∙ ap (λ v. word_at (slice_get names.rows k) (reading a.signed (width_at old a.slot) v)) (held-stays b old new a.slot g h.1)

pub is-of-stays : (names : Names) (first : ℕ) (old new : ListData) (k : ℕ) (word : Option Address) → Grows old new → IsOf names first old k word → IsOf names first new k word
is-of-stays names first old new k None g h = h
is-of-stays names first old new k (Some a) g h = (h.0, in-stays old new a.slot g h.1)

pub spot-stays : (names : Names) (first : ℕ) (b : BankData) (old new : ListData) (p : Spot) → Grows old new → IsSpot names first old p → spot_in names.rows b new p ≡ spot_in names.rows b old p
spot-stays names first b old new p g h =
    ap (λ y. record { signal = p.signal; word = y; low = low_in b new (low_of p.low); width = p.width }) (word-stays names first b old new p.signal p.word g h.is_of)
    ∙ ap (λ z. record { signal = p.signal; word = word_in names.rows b old p.signal p.word; low = z; width = p.width }) (low-stays b old new (low_of p.low) g h.low)

pub spots-stay : (names : Names) (first : ℕ) (b : BankData) (old new : ListData) (ps : List Spot) → Grows old new → All (IsSpot names first old) ps → map (spot_in names.rows b new) ps ≡ map (spot_in names.rows b old) ps
spots-stay names first b old new [] g h = refl
spots-stay names first b old new (p ∷ ps) g h =
    ap (λ z. z ∷ map (spot_in names.rows b new) ps) (spot-stays names first b old new p g (h 0 p (omega arith)))
    ∙ ap (λ zs. spot_in names.rows b old p ∷ zs) (spots-stay names first b old new ps g (λ i d l. h (suc i) d (omega arith)))

low-grows : (old new : ListData) (low : Low) → Grows old new → IsLow old low → IsLow new low
low-grows old new (Constant z) g h = tt
low-grows old new (By index signed from) g h = in-stays old new index g h

pub is-spot-stays : (names : Names) (first : ℕ) (old new : ListData) (p : Spot) → Grows old new → IsSpot names first old p → IsSpot names first new p
is-spot-stays names first old new p g h = record { is_of = is-of-stays names first old new p.signal p.word g h.is_of; width = h.width; low = low-grows old new (low_of p.low) g h.low }

pub are-spots-stay : (names : Names) (first : ℕ) (old new : ListData) (ps : List Spot) → Grows old new → All (IsSpot names first old) ps → All (IsSpot names first new) ps
are-spots-stay names first old new ps g h = λ i d l. is-spot-stays names first old new (get_or ps i d) g (h i d l)

-- ---- one spot is written

-- updates behind cells
pub updates-behind : (names : Names) (n m off : ℕ) (us : BankData → List Update) (at at' : Env) (l0 l1 l2 : ListData) → Fits names l0 at → IsIn l0 off → Longer Nothing n l0 l1 → Updates names m us off at at' l1 l2 →
    Updates names (n + m) us off at at' l0 l2
updates-behind names n m off us at at' l0 l1 l2 fits k longer u =
    let g = longer-grows Nothing n l0 l1 longer in
    record {
      longer = longer-then Nothing n m l0 l1 l2 longer u.longer;
      fits = u.fits;
      keeps = u.keeps;
      does = λ s b t sound st.
          subst (λ o. Stands names b l2 at' (sample (on o (record t { values = all_updated names.rows t.values (us b) }) t))) (held-stays b l0 l1 off g k)
          (u.does s b t (longer.sound s tt sound) (stands-stays names b l0 l1 at (sample t) g fits st));
    }

width-bits : (rows : List Row) (b : BankData) (l : ListData) (ps : List Spot) → t.spots_width (map (spot_in rows b l) ps) ≡ bits_of ps
width-bits rows b l [] = refl
width-bits rows b l (p ∷ ps) = ap (λ z. p.width + z) (width-bits rows b l ps)

-- the update of the first spot, and those of the others
pub first-and-others : (names : Names) (first value part : ℕ) (p : Spot) (ps : List Spot) (b : BankData) (s : Shape) (l0 l1 l2 : ListData) → IsIn l0 value → All (IsSpot names first l0) (p ∷ ps) → Grows l0 l2 → AreSound s l0 →
    Gives Nothing 1 l0 l1 part p.width (λ b. held b l0 value / 2 ^ bits_of ps % 2 ^ p.width) →
    update_of names.rows b l1 p part ∷ t.updates_at (map (spot_in names.rows b l2) ps) (held b l2 value) ≡ t.updates_at (map (spot_in names.rows b l0) (p ∷ ps)) (held b l0 value)
first-and-others names first value part p ps b s l0 l1 l2 there spots g02 sound g =
    let rows = names.rows in
    let g01 = longer-grows Nothing 1 l0 l1 g.longer in
    let spot = spots 0 p (omega arith) in
    let rest : All (IsSpot names first l0) ps = λ i d l. spots (suc i) d (omega arith) in
    let low-is = low-stays b l0 l1 (low_of p.low) g01 spot.low in
    let word-is = word-stays names first b l0 l1 p.signal p.word g01 spot.is_of in
    let word = word_in rows b l0 p.signal p.word in
    let one : update_of rows b l1 p part ≡ t.update_at (spot_in rows b l0 p) (held b l0 value / 2 ^ t.spots_width (map (spot_in rows b l0) ps)) =
    ap (λ y. record { signal = p.signal; word = y; low = low_in b l1 (low_of p.low); width = width_at l1 part; value = held b l1 part }) word-is
    ∙ ap (λ z. record { signal = p.signal; word = word; low = z; width = width_at l1 part; value = held b l1 part }) low-is
    ∙ ap (λ w. record { signal = p.signal; word = word; low = low_in b l0 (low_of p.low); width = w; value = held b l1 part }) g.width
    ∙ ap (λ v. record { signal = p.signal; word = word; low = low_in b l0 (low_of p.low); width = p.width; value = v }) (g.value s b sound ∙ ap (λ n. held b l0 value / 2 ^ n % 2 ^ p.width) (sym (width-bits rows b l0 ps))) in
    let others : t.updates_at (map (spot_in rows b l2) ps) (held b l2 value) ≡ t.updates_at (map (spot_in rows b l0) ps) (held b l0 value) =
    ap (λ zs. t.updates_at zs (held b l2 value)) (spots-stay names first b l0 l2 ps g02 rest) ∙ ap (t.updates_at (map (spot_in rows b l0) ps)) (held-stays b l0 l2 value g02 there) in
    ap (λ z. z ∷ t.updates_at (map (spot_in rows b l2) ps) (held b l2 value)) one
    ∙ ap (λ zs. t.update_at (spot_in rows b l0 p) (held b l0 value / 2 ^ t.spots_width (map (spot_in rows b l0) ps)) ∷ zs) others

-- that of a spot that is of no word
pub whole-update : (rows : List Row) (b : BankData) (l : ListData) (p : Spot) (part : ℕ) → p.word ≡ None → update_in b l p.signal (low_of p.low) part ≡ update_of rows b l p part
whole-update rows b l p part none =
    ap (λ o. record { signal = p.signal; word = word_in rows b l p.signal o; low = low_in b l (low_of p.low); width = width_at l part; value = held b l part }) (sym none)

pub updates-spot : (names : Names) (m value off part : ℕ) (p : Spot) (ps : List Spot) (at0 at1 at2 : Env) (l0 l1 l2 l3 : ListData) → p.word ≡ None → Fits names l0 at0 → IsIn l0 off → IsIn l0 value → All (IsSpot names at0.first l0) (p ∷ ps) →
    Gives Nothing 1 l0 l1 part p.width (λ b. held b l0 value / 2 ^ bits_of ps % 2 ^ p.width) →
    Assigns names 3 p.signal (low_of p.low) part off at0 at1 l1 l2 →
    Updates names m (λ b. t.updates_at (map (spot_in names.rows b l2) ps) (held b l2 value)) off at1 at2 l2 l3 →
    Updates names (spot_cells false p + m) (λ b. t.updates_at (map (spot_in names.rows b l0) (p ∷ ps)) (held b l0 value)) off at0 at2 l0 l3
updates-spot names m value off part p ps at0 at1 at2 l0 l1 l2 l3 none fits k there spots g a u =
    let rows = names.rows in
    let g01 = longer-grows Nothing 1 l0 l1 g.longer in
    let g02 = longer-grows Nothing 4 l0 l2 (longer-then Nothing 1 3 l0 l1 l2 g.longer a.longer) in
    let F : BankData → List Update = λ b. update_in b l1 p.signal (low_of p.low) part ∷ t.updates_at (map (spot_in rows b l2) ps) (held b l2 value) in
    let G : BankData → List Update = λ b. t.updates_at (map (spot_in rows b l0) (p ∷ ps)) (held b l0 value) in
    updates-wider names (1 + (3 + m)) (spot_cells false p + m) G off at0 at2 l0 l3 (omega arith)
    (updates-as names (1 + (3 + m)) F G off at0 at2 l0 l3
    (λ s b sound. ap (λ x. x ∷ t.updates_at (map (spot_in rows b l2) ps) (held b l2 value)) (whole-update rows b l1 p part none) ∙ first-and-others names at0.first value part p ps b s l0 l1 l2 there spots g02 sound g)
    (updates-behind names 1 (3 + m) off F at0 at2 l0 l1 l3 fits k g.longer
    (updates-more names 3 m p.signal (low_of p.low) part off (λ b. t.updates_at (map (spot_in rows b l2) ps) (held b l2 value)) at0 at1 at2 l1 l2 l3 (in-stays l0 l1 off g01 k) a u)))

-- ---- all of them

pub room-one : (room : Room) → HasOneWord (rooms.names_of room).rows
room-one room = subst HasOneWord (map-append row_of room.signals.now room.locals.now) (one-word (room.signals.now ++ room.locals.now))

pub first-spot : (P : Spot → Type 0) (xs : List Spot) (i : ℕ) (d : Spot) → i < length xs → All P (drop i xs) → P (get_or xs i d)
first-spot P xs i d h all = let all' = subst (All P) (drop_more xs i d h) all in all' 0 d (omega arith)

pub rest-spots : (P : Spot → Type 0) (xs : List Spot) (i : ℕ) (d : Spot) → i < length xs → All P (drop i xs) → All P (drop (i + 1) xs)
rest-spots P xs i d h all = let all' = subst (All P) (drop_more xs i d h) all in λ j e l. all' (suc j) e (omega (arith, l))

-- spots that are of no words

no-word : (o : Option Address) (k : ℕ) (ms : List ℕ) → memory_at k o ++ ms ≡ [] → (o ≡ None) × (ms ≡ [])
no-word None k ms e = (refl, e)
no-word (Some a) k ms e = let z : ⊥ = cc in absurd z

pub whole-spots : (xs : List Spot) (i : ℕ) (d : Spot) → i < length xs → stored_by (drop i xs) ≡ [] → ((get_or xs i d).word ≡ None) × (stored_by (drop (i + 1) xs) ≡ [])
whole-spots xs i d h e =
    let x = get_or xs i d in
    no-word x.word x.signal (stored_by (drop (i + 1) xs)) (ap stored_by (sym (drop_more xs i d h)) ∙ e)

-- a spot that is of no word is of a signal
pub of-signal : (names : Names) (first : ℕ) (l : ListData) (k : ℕ) (word : Option Address) → word ≡ None → IsOf names first l k word → IsSignal names k × (first ≤ k)
of-signal names first l k word none h = subst (IsOf names first l k) none h

pub of-memory : (names : Names) (first : ℕ) (l : ListData) (k : ℕ) (word : Option Address) (a : Address) → word ≡ Some a → IsOf names first l k word → IsMemory names k × IsIn l a.slot
of-memory names first l k word a some h = subst (IsOf names first l k) some h

-- the spots that are left are written where the first of them is, and then the others
pub updates-left : (names : Names) (value off part : ℕ) (spots : List Spot) (i : ℕ) (d : Spot) (at0 at1 at2 : Env) (l0 l1 l2 l3 : ListData) → i < length spots → (get_or spots i d).word ≡ None → Fits names l0 at0 → IsIn l0 off → IsIn l0 value →
    All (IsSpot names at0.first l0) (drop i spots) →
    Gives Nothing 1 l0 l1 part (get_or spots i d).width (λ b. held b l0 value / 2 ^ bits_of (drop (i + 1) spots) % 2 ^ (get_or spots i d).width) →
    Assigns names 3 (get_or spots i d).signal (low_of (get_or spots i d).low) part off at0 at1 l1 l2 →
    Updates names (cells_of false (drop (i + 1) spots)) (λ b. t.updates_at (map (spot_in names.rows b l2) (drop (i + 1) spots)) (held b l2 value)) off at1 at2 l2 l3 →
    Updates names (cells_of false (drop i spots)) (λ b. t.updates_at (map (spot_in names.rows b l0) (drop i spots)) (held b l0 value)) off at0 at2 l0 l3
updates-left names value off part spots i d at0 at1 at2 l0 l1 l2 l3 h none fits k there all g a u =
    let e = drop_more spots i d h in
    let F : List Spot → Type 0 = λ zs. Updates names (cells_of false zs) (λ b. t.updates_at (map (spot_in names.rows b l0) zs) (held b l0 value)) off at0 at2 l0 l3 in
    subst F (sym e) (updates-spot names (cells_of false (drop (i + 1) spots)) value off part (get_or spots i d) (drop (i + 1) spots) at0 at1 at2 l0 l1 l2 l3 none fits k there (subst (All (IsSpot names at0.first l0)) e all) g a u)

pub updates-over : (names : Names) (value off : ℕ) (spots : List Spot) (i : ℕ) (at : Env) (l : ListData) → length spots ≤ i → Fits names l at →
    Updates names (cells_of false (drop i spots)) (λ b. t.updates_at (map (spot_in names.rows b l) (drop i spots)) (held b l value)) off at at l l
updates-over names value off spots i at l h fits =
    let F : List Spot → Type 0 = λ zs. Updates names (cells_of false zs) (λ b. t.updates_at (map (spot_in names.rows b l) zs) (held b l value)) off at at l l in
    subst F (sym (drop_all i spots h)) (updates-none names off at l fits)
