-- Runs of bytes, and pairs.
use Rattle.std.proofs.Common.{◌≡◌, ℕ, suc, ◌+◌, ◌<◌, ◌≤◌, Bool, true, false, cond, ◌==◌, ◌&&◌, List, [], ◌∷◌, ◌++◌, length, get_or, take, drop, map, Some, None, Bor, refl, ap, ◌∙◌, arith, ◌⊎◌, inl, inr}
use Rattle.std.specs.List.{list_any, list_all}
use Rattle.std.proofs.lemmas.Bool.{cond_both, and_parts, cond-true}
use Rattle.std.specs.Str.{bytes_eq}
use Rattle.std.proofs.lemmas.List.{at_drop_more, at_drop_all, get_or_default}
use Rattle.vl_tree.specs.Bytes.{past, begins, Are, Ends}
use Rattle.vl_lex.specs.Reading.{run, past_pair, digits_from}
use Rattle.vl_tree.specs.Numbers.{is_first_digit, is_further_digit}
pub use Rattle.vl_tree.specs.vl_base.proofs.Options.{some_parts as some_is}
pub use Rattle.vl_tree.specs.vl_base.proofs.Lists.{get_or_itself as read}

pub run_goes : (p : ℕ → Bool) (t : List ℕ) (i b : ℕ) → i < length t → b ≡ get_or t i b → p b ≡ true → length (run p (drop i t)) ≡ length (run p (drop (i + 1) t)) + 1
unfolding run
run_goes p t i b h e pass =
    let step : length (run p (drop i t)) ≡ length (run p (get_or t i b ∷ drop (i + 1) t)) = at_drop_more (λ s. length (run p s)) t i b h in
    step ∙ rw (← e, pass) (omega arith)

pub run_stops : (p : ℕ → Bool) (t : List ℕ) (i b : ℕ) → i < length t → b ≡ get_or t i b → p b ≡ false → length (run p (drop i t)) ≡ 0
unfolding run
run_stops p t i b h e pass =
    let step : length (run p (drop i t)) ≡ length (run p (get_or t i b ∷ drop (i + 1) t)) = at_drop_more (λ s. length (run p s)) t i b h in
    step ∙ rw (← e, pass) refl

pub run_ends : (p : ℕ → Bool) (t : List ℕ) (i : ℕ) → length t ≤ i → length (run p (drop i t)) ≡ 0
unfolding run
run_ends p t i h = at_drop_all (λ s. length (run p s)) t i h

-- the run is a front of the text, and past what follows it
pub take_run : (p : ℕ → Bool) (t : List ℕ) → take (length (run p t)) t ≡ run p t
unfolding run
take_run p [] = refl
take_run p (b ∷ t) =
    elim (p b) as (λ v. take (length (cond v (b ∷ run p t) [])) (b ∷ t) ≡ cond v (b ∷ run p t) []) [ true ↦ ap (λ s. b ∷ s) (take_run p t) | false ↦ refl ]

pub drop_run : (p : ℕ → Bool) (t : List ℕ) → drop (length (run p t)) t ≡ past p t
unfolding run past
drop_run p [] = refl
drop_run p (b ∷ t) =
    elim (p b) as (λ v. drop (length (cond v (b ∷ run p t) [])) (b ∷ t) ≡ cond v (past p t) (b ∷ t)) [ true ↦ drop_run p t | false ↦ refl ]

pub length_run : (p : ℕ → Bool) (t : List ℕ) → length (run p t) ≤ length t
unfolding run
length_run p [] = omega arith
length_run p (b ∷ t) =
    elim (p b) as (λ v. length (cond v (b ∷ run p t) []) ≤ suc (length t)) [ true ↦ omega (arith, length_run p t) | false ↦ omega arith ]

-- ---- pairs

pub pair_goes : (a b c : ℕ) (cs : List ℕ) → c == a ≡ false → past_pair a b (c ∷ cs) ≡ past_pair a b cs
unfolding past_pair
pair_goes a b c cs h = rw h refl

pub pair_goes_2 : (a b c : ℕ) (cs : List ℕ) → begins b cs ≡ false → past_pair a b (c ∷ cs) ≡ past_pair a b cs
unfolding past_pair
pair_goes_2 a b c cs h = elim (c == a) as (λ v. cond (v && begins b cs) (Some (drop 1 cs)) (past_pair a b cs) ≡ past_pair a b cs) [ true ↦ rw h refl | false ↦ refl ]

pub pair_found : (a b c : ℕ) (cs : List ℕ) → c == a ≡ true → begins b cs ≡ true → past_pair a b (c ∷ cs) ≡ Some (drop 1 cs)
unfolding past_pair
pair_found a b c cs h k = rw (h, k) refl

pub pair_none : (a b : ℕ) → past_pair a b [] ≡ None
unfolding past_pair
pair_none a b = refl

-- ---- tables of words

pub any_goes : (bytes : List ℕ) (words : List (Bor (List ℕ))) (i : ℕ) (w : Bor (List ℕ)) → i < length words → w ≡ get_or words i w → bytes_eq bytes w.now ≡ false
    → list_any (bytes_eq bytes) (map (λ w. w.now) (drop i words)) ≡ list_any (bytes_eq bytes) (map (λ w. w.now) (drop (i + 1) words))
any_goes bytes words i w h e miss =
    at_drop_more (λ ws. list_any (bytes_eq bytes) (map (λ w. w.now) ws)) words i w h ∙ rw (← e, miss) refl

pub any_found : (bytes : List ℕ) (words : List (Bor (List ℕ))) (i : ℕ) (w : Bor (List ℕ)) → i < length words → w ≡ get_or words i w → bytes_eq bytes w.now ≡ true
    → list_any (bytes_eq bytes) (map (λ w. w.now) (drop i words)) ≡ true
any_found bytes words i w h e yes' =
    at_drop_more (λ ws. list_any (bytes_eq bytes) (map (λ w. w.now) ws)) words i w h ∙ rw (← e, yes') refl

pub any_none : (bytes : List ℕ) (words : List (Bor (List ℕ))) (i : ℕ) → length words ≤ i → list_any (bytes_eq bytes) (map (λ w. w.now) (drop i words)) ≡ false
any_none bytes words i h = at_drop_all (λ ws. list_any (bytes_eq bytes) (map (λ w. w.now) ws)) words i h

-- ---- what runs are, without the function

pub run_and_past : (p : ℕ → Bool) (t : List ℕ) → t ≡ run p t ++ past p t
unfolding run past
run_and_past p [] = refl
run_and_past p (b ∷ t) =
    elim (p b) as (λ v. b ∷ t ≡ cond v (b ∷ run p t) [] ++ cond v (past p t) (b ∷ t)) [ true ↦ ap (λ s. b ∷ s) (run_and_past p t) | false ↦ refl ]

pub run_passes : (p : ℕ → Bool) (t : List ℕ) → Are p (run p t)
unfolding run
run_passes p [] = refl
run_passes p (b ∷ t) = cond_both (p b) (b ∷ run p t) [] (λ s. Are p s) (λ e. rw e (run_passes p t)) (λ e. refl)

pub past_ends : (p : ℕ → Bool) (t : List ℕ) → Ends p (past p t)
unfolding past
past_ends p [] = tt
past_ends p (b ∷ t) = cond_both (p b) (past p t) (b ∷ t) (λ s. Ends p s) (λ e. past_ends p t) (λ e. e)

run_none : (p : ℕ → Bool) (rest : List ℕ) → Ends p rest → run p rest ≡ []
unfolding run
run_none p [] h = refl
run_none p (b ∷ rest) h = rw h refl

past_none : (p : ℕ → Bool) (rest : List ℕ) → Ends p rest → past p rest ≡ rest
unfolding past
past_none p [] h = refl
past_none p (b ∷ rest) h = rw h refl

-- bytes that pass, where none that passes follows, are the run
pub run_is : (p : ℕ → Bool) (s rest : List ℕ) → Are p s → Ends p rest → run p (s ++ rest) ≡ s
unfolding run
run_is p [] rest h e = run_none p rest e
run_is p (b ∷ s) rest h e =
    let parts = and_parts (p b) (list_all p s) h in
    cond-true (p b) (b ∷ run p (s ++ rest)) [] parts.0 ∙ ap (λ u. b ∷ u) (run_is p s rest parts.1 e)

pub past_is : (p : ℕ → Bool) (s rest : List ℕ) → Are p s → Ends p rest → past p (s ++ rest) ≡ rest
unfolding past
past_is p [] rest h e = past_none p rest e
past_is p (b ∷ s) rest h e =
    let parts = and_parts (p b) (list_all p s) h in
    cond-true (p b) (past p (s ++ rest)) (b ∷ (s ++ rest)) parts.0 ∙ past_is p s rest parts.1 e

-- which way a test went
pub chosen : {X : Type 0} (b : Bool) (x y z : X) → cond b x y ≡ z → ((b ≡ true) × (x ≡ z)) ⊎ ((b ≡ false) × (y ≡ z))
chosen true x y z h = inl (refl, h)
chosen false x y z h = inr (refl, h)

pub none_is_not : {X : Type 0} {Y : Type 0} (x : X) → None ≡ Some x → Y
none_is_not x e = absurd cc

-- ---- digits behind a first one

pub parts_are : (signed : Bool) (radix b : ℕ) (t text front back : List ℕ) (n : ℕ) → text ≡ b ∷ t → is_first_digit radix b ≡ true → n ≡ length (run (is_further_digit radix b) t)
    → front ≡ take (1 + n) text → back ≡ drop (1 + n) text → Some (record { signed = signed; radix = radix; digits = front; rest = back }) ≡ digits_from signed radix text
parts_are signed radix b t text front back n e f k p q =
    let n-is : 1 + n ≡ suc (length (run (is_further_digit radix b) t)) = omega arith in
    let front-is : front ≡ b ∷ run (is_further_digit radix b) t = p ∙ rw (n-is, e) (ap (λ s. b ∷ s) (take_run (is_further_digit radix b) t)) in
    let back-is : back ≡ past (is_further_digit radix b) t = q ∙ rw (n-is, e) (drop_run (is_further_digit radix b) t) in
    rw (front-is, back-is, e, f) refl
