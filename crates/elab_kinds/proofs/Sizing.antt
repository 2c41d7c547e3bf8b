-- The sizes of modules, round by round.
use Rattle.std.proofs.Common.{◌≡◌, refl, sym, ap, ◌∙◌, subst, ℕ, zero, suc, ◌+◌, ◌-◌, ◌<◌, ◌≤◌, min, Bool, true, false, List, [], ◌∷◌, ◌++◌, map, length, get_or, take, Option, Some, None, arith}
use Rattle.std.specs.Prelude.{if◌then◌else◌, option_map, slice_get, nat_lt, ◌||◌}
use Rattle.std.proofs.lemmas.Bool.Decides.{nat_tests}
use Rattle.std.specs.Option.{option_map_or}
use Rattle.std.specs.Str.{bytes_eq}
use Rattle.std.specs.declared.alloc.Global.{Global}
use Rattle.std.specs.declared.vec.Vec.{Vec}
use Rattle.elab_plain.specs.vl_flat.specs.Items as x
use Rattle.std.proofs.Math.Dec.{leb}
use Rattle.std.proofs.lemmas.Bool.{leb-true, leb-false}
use Rattle.std.proofs.lemmas.List.{length_push, length-map, get_or-map, take_more, map_push}
use Rattle.std.proofs.lemmas.Option.{slice_get-get_or}
use Rattle.elab_plain.specs.vl_flat.specs.Environments.{Counts as Numbers, no_more, module_counts, module_named, size}
use Rattle.elab_plain.specs.declared.items.Module.{Module}
use Rattle.elab_plain.specs.SeenItems.{seen_module}
use Rattle.elab_kinds.specs.declared.counts.Counts.{Counts}
use Rattle.elab_kinds.specs.declared.index.Index.{Index}
use Rattle.elab_kinds.specs.Places.{place_named, place_of}
use Rattle.elab_kinds.specs.Sized.{counts_of, counts_at, kept, kept_number, kept_size, told, own_signals, round_at, next_counts, Grows, most_numbered, are_vast}
use Rattle.elab_kinds.proofs.Keeping.{counts-same, kept-twice, module-kept}
use Rattle.elab_plain.specs.vl_base.proofs.Lists.{get_pushed as push-at}

-- ---- one round

-- what is kept of the size at the next depth
abbrev pub next_size : List x.Module → (List ℕ → Numbers) → List ℕ → Numbers
next_size ms sizes t = option_map_or (λ m. kept (module_counts sizes m)) (module_named ms t) no_more

pub size-suc : (n : ℕ) (ms : List x.Module) → kept_size (suc n) ms ≡ next_size ms (kept_size n ms)
unfolding size
size-suc n ms = λ i t. by (module_named ms t) i
  where
    by : (o : Option x.Module) → kept (option_map_or (module_counts (size n ms)) o no_more) ≡ option_map_or (λ m. kept (module_counts (kept_size n ms) m)) o no_more
    by None = refl
    by (Some m) = module-kept (size n ms) (kept_size n ms) (λ t. sym (kept-twice (size n ms t))) m

pub size-zero : (ms : List x.Module) → kept_size 0 ms ≡ (λ t. no_more)
unfolding size
size-zero ms = refl

-- what is at a place of a list of numbers
abbrev numbers_at : List Numbers → ℕ → Numbers
numbers_at cs p = option_map_or (λ c. c) (slice_get cs p) no_more

at-numbers : (round : List Counts) (p : ℕ) → counts_at round p ≡ numbers_at (map counts_of round) p
at-numbers [] p = refl
at-numbers (c ∷ cs) zero = refl
at-numbers (c ∷ cs) (suc p) = at-numbers cs p

later : {Y : Type 0} (f : ℕ → Y) (o : Option ℕ) (d : Y) → option_map_or f (option_map (λ p. suc p) o) d ≡ option_map_or (λ p. f (suc p)) o d
later f None d = refl
later f (Some p) d = refl

at-named : (f : x.Module → Numbers) (ms : List x.Module) (t : List ℕ) → option_map_or (numbers_at (map f ms)) (place_named ms t) no_more ≡ option_map_or f (module_named ms t) no_more
at-named f [] t = refl
at-named f (m ∷ ms) t = go (at-named f ms t) (bytes_eq t m.name.name)
  where
    go : option_map_or (numbers_at (map f ms)) (place_named ms t) no_more ≡ option_map_or f (module_named ms t) no_more → (b : Bool) → option_map_or (numbers_at (map f (m ∷ ms))) (if b then Some 0 else option_map (λ p. suc p) (place_named ms t)) no_more ≡ option_map_or f (if b then Some m else module_named ms t) no_more
    go rest true = refl
    go rest false = later (numbers_at (map f (m ∷ ms))) (place_named ms t) no_more ∙ rest

-- what the round behind tells
pub told-next : (index : Index) (ms : List x.Module) (round : List Counts) (sizes : List ℕ → Numbers) → place_of index ≡ place_named ms → map counts_of round ≡ map (λ m. kept (module_counts sizes m)) ms
    → told index round ≡ next_size ms sizes
told-next index ms round sizes places made = λ i t. at t i
  where
    at : (t : List ℕ) → told index round t ≡ next_size ms sizes t
    at t =
        ap (λ (o : List ℕ → Option ℕ). option_map_or (counts_at round) (o t) no_more) places
        ∙ (ap (λ (g : ℕ → Numbers). option_map_or g (place_named ms t) no_more) (λ i p. at-numbers round p i)
        ∙ (ap (λ (cs : List Numbers). option_map_or (numbers_at cs) (place_named ms t) no_more) made
        ∙ at-named (λ m. kept (module_counts sizes m)) ms t))

-- ---- rounds

-- each round that is there is that of its depth
abbrev pub Upto : Index → List x.Module → List (Vec Counts Global) → Type 0
Upto index ms rounds = (k : ℕ) → k ≤ length rounds → told index (round_at rounds k) ≡ kept_size k ms

none-told : (o : Option ℕ) → option_map_or (counts_at []) o no_more ≡ no_more
none-told None = refl
none-told (Some p) = refl

pub upto-none : (index : Index) (ms : List x.Module) (rounds : List (Vec Counts Global)) → rounds ≡ [] → Upto index ms rounds
upto-none index ms rounds e zero l = (λ i t. none-told (place_of index t) i) ∙ sym (size-zero ms)
upto-none index ms rounds e (suc k) l = absurd (omega (arith, ap length e, l))

push-before : {X : Type 0} (xs : List X) (y : X) (i : ℕ) → i < length xs → slice_get (xs ++ y ∷ []) i ≡ slice_get xs i
push-before [] y i l = absurd (omega (arith, l))
push-before (x ∷ xs) y zero l = refl
push-before (x ∷ xs) y (suc i) l = push-before xs y i (omega (arith, l))

abbrev items_or : Option (Vec Counts Global) → List Counts
items_or o = option_map_or (λ (v : Vec Counts Global). v.items) o []

-- the round at the place for a depth
pub round-is : (rounds : List (Vec Counts Global)) (n p : ℕ) (v : Vec Counts Global) → 1 ≤ n → 1 ≤ length rounds → p ≡ min (n - 1) (length rounds - 1) → v ≡ get_or rounds p v → v.items ≡ round_at rounds n
round-is rounds zero p v l m e is = absurd (omega (arith, l))
round-is rounds (suc k) p v l m e is =
    let d : p ≡ min k (length rounds - 1) = omega (arith, e) in
    let w : p < length rounds = omega (arith, d, m) in
    ap (λ (z : Vec Counts Global). z.items) is ∙ (sym (ap items_or (slice_get-get_or rounds p v w)) ∙ ap (λ i. items_or (slice_get rounds i)) d)

pub no-round : (rounds : List (Vec Counts Global)) (n : ℕ) → length rounds ≡ 0 → [] ≡ round_at rounds n
no-round [] zero e = refl
no-round [] (suc n) e = refl
no-round (r ∷ rs) n e = absurd (omega (arith, e))

-- the rounds that were there
round-before : (rounds : List (Vec Counts Global)) (v : Vec Counts Global) (k : ℕ) → k ≤ length rounds → round_at (rounds ++ v ∷ []) k ≡ round_at rounds k
round-before rounds v zero l = refl
round-before rounds v (suc k) l =
    let n : length (rounds ++ v ∷ []) ≡ length rounds + 1 = length_push rounds v in
    let e : min k (length (rounds ++ v ∷ []) - 1) ≡ k = omega (arith, n, l) in
    let d : k ≡ min k (length rounds - 1) = omega (arith, l) in
    ap (λ i. items_or (slice_get (rounds ++ v ∷ []) i)) e
    ∙ (ap items_or (push-before rounds v k (omega (arith, l)))
    ∙ ap (λ i. items_or (slice_get rounds i)) d)

-- the new one
round-new : (rounds : List (Vec Counts Global)) (v : Vec Counts Global) → round_at (rounds ++ v ∷ []) (suc (length rounds)) ≡ v.items
round-new rounds v =
    let n : length (rounds ++ v ∷ []) ≡ length rounds + 1 = length_push rounds v in
    let e : min (length rounds) (length (rounds ++ v ∷ []) - 1) ≡ length rounds = omega (arith, n) in
    ap (λ i. items_or (slice_get (rounds ++ v ∷ []) i)) e ∙ ap items_or (push-at rounds v)

-- the next round tells the next depth
told-size : (index : Index) (ms : List x.Module) (rounds : List (Vec Counts Global)) (round : List Counts) → place_of index ≡ place_named ms → Upto index ms rounds
    → map counts_of round ≡ next_counts index ms (round_at rounds (length rounds)) → told index round ≡ kept_size (suc (length rounds)) ms
told-size index ms rounds round places upto made =
    told-next index ms round (told index (round_at rounds (length rounds))) places made
    ∙ (ap (next_size ms) (upto (length rounds) (omega arith)) ∙ sym (size-suc (length rounds) ms))

pub upto-more : (index : Index) (ms : List x.Module) (old new : List (Vec Counts Global)) → place_of index ≡ place_named ms → Upto index ms old → Grows index ms old new true
    → Upto index ms new × (length new ≡ length old + 1)
upto-more index ms old new places upto (v, grown, made) =
    (subst (λ (z : List (Vec Counts Global)). Upto index ms z) (sym grown) each, ap length grown ∙ length_push old v)
  where
    last : (k : ℕ) → k ≡ suc (length old) → told index (round_at (old ++ v ∷ []) k) ≡ kept_size k ms
    last k e =
        subst (λ (z : ℕ). told index (round_at (old ++ v ∷ []) z) ≡ kept_size z ms) (sym e)
        (ap (told index) (round-new old v) ∙ told-size index ms old v.items places upto made)

    each : Upto index ms (old ++ v ∷ [])
    each k l = go (leb k (length old)) refl
      where
        go : (b : Bool) → leb k (length old) ≡ b → told index (round_at (old ++ v ∷ []) k) ≡ kept_size k ms
        go true e = ap (told index) (round-before old v k (leb-true k (length old) e)) ∙ upto k (leb-true k (length old) e)
        go false e = last k (omega (arith, leb-false k (length old) e, l, length_push old v))

-- ---- rounds that stay as they are

-- from a depth on whose size is the next one's
size-stays : (n : ℕ) (ms : List x.Module) → kept_size n ms ≡ kept_size (suc n) ms → (j : ℕ) → kept_size (n + j) ms ≡ kept_size n ms
size-stays n ms e zero = ap (λ k. kept_size k ms) (omega arith)
size-stays n ms e (suc j) =
    let d : n + suc j ≡ suc (n + j) = omega arith in
    ap (λ k. kept_size k ms) d ∙ (size-suc (n + j) ms ∙ (ap (next_size ms) (size-stays n ms e j) ∙ (sym (size-suc n ms) ∙ sym e)))

round-stays : (rounds : List (Vec Counts Global)) (n : ℕ) → length rounds ≤ n → round_at rounds n ≡ round_at rounds (length rounds)
round-stays [] zero l = refl
round-stays [] (suc n) l = refl
round-stays (r ∷ rs) zero l = absurd (omega (arith, l))
round-stays (r ∷ rs) (suc n) l =
    let a : min n (length (r ∷ rs) - 1) ≡ min (length rs) (length (r ∷ rs) - 1) = omega (arith, l) in
    ap (λ i. items_or (slice_get (r ∷ rs) i)) a

pub settled : (index : Index) (ms : List x.Module) (old new : List (Vec Counts Global)) → place_of index ≡ place_named ms → Upto index ms old → Grows index ms old new false
    → (n : ℕ) → told index (round_at new n) ≡ kept_size n ms
settled index ms old new places upto (same, made) n = ap (λ (z : List (Vec Counts Global)). told index (round_at z n)) same ∙ go (leb n (length old)) refl
  where
    here : told index (round_at old (length old)) ≡ kept_size (length old) ms
    here = upto (length old) (omega arith)

    stays : kept_size (length old) ms ≡ kept_size (suc (length old)) ms
    stays = sym here ∙ told-size index ms old (round_at old (length old)) places upto made

    go : (b : Bool) → leb n (length old) ≡ b → told index (round_at old n) ≡ kept_size n ms
    go true e = upto n (leb-true n (length old) e)
    go false e =
        let l : length old ≤ n = omega (arith, leb-false n (length old) e) in
        let d : length old + (n - length old) ≡ n = omega (arith, l) in
        ap (told index) (round-stays old n l) ∙ (here ∙ (sym (size-stays (length old) ms stays (n - length old)) ∙ ap (λ k. kept_size k ms) d))

-- ---- modules one by one

pub own-at : (owns : List ℕ) (ms : List Module) (i : ℕ) (y : Module) → i < length ms → y ≡ get_or ms i y → owns ≡ map own_signals (map seen_module ms) → get_or owns i 0 ≡ own_signals (seen_module y)
own-at owns ms i y l is e =
    let m : i < length (map seen_module ms) = omega (arith, l, length-map ms seen_module) in
    ap (λ z. get_or z i 0) e ∙ (get_or-map own_signals (map seen_module ms) i (seen_module y) 0 m ∙ (ap own_signals (get_or-map seen_module ms i y (seen_module y) l) ∙ ap (λ z. own_signals (seen_module z)) (sym is)))

pub next-more : (f : x.Module → Numbers) (ms : List Module) (i : ℕ) (y : Module) (all new : List Counts) (v : Counts) → i < length ms → y ≡ get_or ms i y → map counts_of all ≡ map f (map seen_module (take i ms)) → new ≡ all ++ v ∷ []
    → counts_of v ≡ f (seen_module y) → map counts_of new ≡ map f (map seen_module (take (i + 1) ms))
next-more f ms i y all new v l at before grown is =
    ap (map counts_of) grown
    ∙ (map_push counts_of all v
    ∙ (ap (λ z. z ++ counts_of v ∷ []) before
    ∙ (ap (λ z. map f (map seen_module (take i ms)) ++ z ∷ []) (is ∙ ap (λ z. f (seen_module z)) at)
    ∙ sym (ap (λ z. map f (map seen_module z)) (take_more ms i y l) ∙ (ap (map f) (map_push seen_module (take i ms) (get_or ms i y)) ∙ map_push f (map seen_module (take i ms)) (seen_module (get_or ms i y)))))))

-- without rounds no module has any signal or function
none-at : (index : Index) (t : List ℕ) (o : Option ℕ) → option_map_or (counts_at []) o no_more ≡ kept no_more
none-at index t None = counts-same no_more (kept no_more) (omega arith) (omega arith)
none-at index t (Some p) = counts-same no_more (kept no_more) (omega arith) (omega arith)

pub untold : (index : Index) (n : ℕ) → told index (round_at [] n) ≡ (λ t. kept no_more)
untold index zero = λ i t. none-at index t (place_of index t) i
untold index (suc n) = λ i t. none-at index t (place_of index t) i

vast-kept : (n : ℕ) → nat_lt most_numbered (kept_number n) ≡ nat_lt most_numbered n
vast-kept n = grind (arith, nat_tests)

-- many are many also where they are kept
pub are-vast : (a c : Numbers) → a ≡ kept c → (nat_lt most_numbered a.signals || nat_lt most_numbered a.functions) ≡ are_vast c
are-vast a c h =
    ap (λ (z : Numbers). nat_lt most_numbered z.signals || nat_lt most_numbered z.functions) h
    ∙ (λ i. vast-kept c.signals i || vast-kept c.functions i)
