-- The steps of the walks.
use Rattle.std.proofs.Common.{◌≡◌, ℕ, ◌+◌, ◌<◌, get_or, take, subst, if◌then◌else◌, Bool, true, false, cond, ◌||◌, is_some, List, [], ◌∷◌, ◌++◌, length, Option, Some, None, refl, sym, ap, ◌∙◌}
use Rattle.std.specs.List.{list_any, position}
use Rattle.std.specs.Option.{option_or, option_map, option_map_or}
use Rattle.std.specs.Str.{bytes_eq}
use Rattle.std.specs.Borrow.{Bor}
use Rattle.std.proofs.lemmas.Bool.Decides.{nat_tests}
use Rattle.std.proofs.lemmas.Option.{slice_get_read}
use Rattle.std.proofs.lemmas.Cmp.{nat_list_eq_equiv}
use Rattle.std.proofs.lemmas.Map.Text.{hash_map_updates_str}
use Rattle.std.proofs.lemmas.Grind.{common_steps}
use Rattle.indexmap.specs.IndexMap.{IndexMap, UpdatesBy}
use Rattle.std.proofs.Common.{arith}
use Rattle.std.specs.Map.{lookup}
use Rattle.vl_scope.specs.vl_tree.specs.declared.tree.Identifier.{Identifier}
use Rattle.vl_scope.specs.vl_tree.specs.declared.source_tree.Instance.{Instance}
use Rattle.vl_scope.specs.vl_tree.specs.declared.source_tree.Module.{Module}
use Rattle.vl_scope.specs.DeclarationFaults.{names_have}
use Rattle.vl_names.specs.declared.interface.Interface.{Interface}
use Rattle.vl_scope.proofs.Members.{each_after-push}
use Rattle.vl_scope.proofs.Listed.{bytes_eq-to}
use Rattle.vl_scope.specs.declared.fault.Fault.{Fault}
use Rattle.vl_scope.specs.Faults.{earliest, fault_if, each_after}
use Rattle.vl_scope.proofs.Orders.{earliest-append}
use Rattle.vl_names.specs.HierarchyFaults.{repeated_fault}
use Rattle.vl_names.specs.Seen.{has, look, with_name, none, number_in, with_number, faults_in, faults_at, faults_by_number, Describes, DescribeAll}
pub use Rattle.vl_scope.specs.vl_base.proofs.Booleans.{or_false_right as or-false}
use Rattle.vl_scope.specs.vl_base.proofs.Booleans.{or_assoc_back as or-assoc}

either : {A : Type 0} (b : Bool) (w : A) (o : Option A) → is_some (cond b (Some w) o) ≡ (is_some o || b)
either true w None = refl
either true w (Some x) = refl
either false w None = refl
either false w (Some x) = refl

-- what a map has after a key is put in
pub has-insert : {X S : Type 0} (m n : IndexMap (Bor (List ℕ)) X S) (bs : List ℕ) (w : X) → UpdatesBy (λ x y. bytes_eq x.now y.now) (λ k. bytes_eq bs k.now) m n (Some w) → has n ≡ with_name (has m) bs
unfolding has look with_name
has-insert m n bs w u = λ i t. (ap is_some (hash_map_updates_str bs m n (Some w) u t) ∙ either (bytes_eq bs t) w _ ∙ ap (λ b. has m t || b) (nat_list_eq_equiv.symm bs t)) i

-- a map with nothing in it
pub has-empty : {X S : Type 0} (m : IndexMap (Bor (List ℕ)) X S) → m.entries ≡ [] → has m ≡ none
unfolding has look
has-empty m e = λ i t. ap (λ es. is_some (lookup (λ k. bytes_eq t k.now) es)) e i

pub list_any-append : {X : Type 0} (p : X → Bool) (xs ys : List X) → list_any p (xs ++ ys) ≡ (list_any p xs || list_any p ys)
list_any-append p [] ys = refl
list_any-append p (x ∷ xs) ys = ap (λ b. p x || b) (list_any-append p xs ys) ∙ or-assoc (p x) _ _

names_have-push : (t : List ℕ) (ns : List Identifier) (n : Identifier) → names_have (ns ++ n ∷ []) t ≡ (names_have ns t || bytes_eq t n.name)
names_have-push t ns n = list_any-append (λ m. bytes_eq t m.name) ns (n ∷ []) ∙ ap (λ b. names_have ns t || b) (or-false (bytes_eq t n.name))

pub with_name-names_have : (ns : List Identifier) (n : Identifier) → with_name (names_have ns) n.name ≡ names_have (ns ++ n ∷ [])
unfolding with_name
with_name-names_have ns n = λ i t. (sym (names_have-push t ns n)) i

-- ---- the numbers of modules

position-cons : {X : Type 0} (p : X → Bool) (x : X) (xs : List X) → position p (x ∷ xs) ≡ (if p x then Some 0 else option_map (λ k. k + 1) (position p xs))
position-cons p x xs = grind (arith, nat_tests)

position-push : {X : Type 0} (p : X → Bool) (xs : List X) (y : X) → position p (xs ++ y ∷ []) ≡ option_or (position p xs) (if p y then Some (length xs) else None)
position-push p [] y = grind (arith, nat_tests)
position-push p (x ∷ xs) y = rw (position-cons p x (xs ++ y ∷ []), position-cons p x xs, position-push p xs y) (by (p x) (position p xs) (p y))
  where
    by : (b : Bool) (o : Option ℕ) (c : Bool) → (if b then Some 0 else option_map (λ k. k + 1) (option_or o (if c then Some (length xs) else None))) ≡ option_or (if b then Some 0 else option_map (λ k. k + 1) o) (if c then Some (length (x ∷ xs)) else None)
    by true o c = refl
    by false None true = ap Some (omega arith)
    by false None false = refl
    by false (Some k) c = refl

pub position-some : {X : Type 0} (p : X → Bool) (xs : List X) → is_some (position p xs) ≡ list_any p xs
position-some p [] = refl
position-some p (x ∷ xs) = rw (position-cons p x xs, ← (position-some p xs)) (by (p x) (position p xs))
  where
    by : (b : Bool) (o : Option ℕ) → is_some (if b then Some 0 else option_map (λ k. k + 1) o) ≡ (b || is_some o)
    by true o = refl
    by false None = refl
    by false (Some k) = refl

pub number_in-some : (ms : List Module) (t : List ℕ) → is_some (number_in ms t) ≡ list_any (λ m. bytes_eq t m.name.name) ms
number_in-some ms t = position-some (λ m. bytes_eq t m.name.name) ms

pub with_number-in : (ms : List Module) (m : Module) → with_number (number_in ms) m.name.name (length ms) ≡ number_in (ms ++ m ∷ [])
unfolding with_number
with_number-in ms m = λ i t. (sym (position-push (λ x. bytes_eq t x.name.name) ms m)) i

pub with_number-known : (before : List ℕ → Option ℕ) (n : List ℕ) (k : ℕ) → is_some (before n) ≡ true → before ≡ with_number before n k
unfolding with_number
with_number-known before n k h = λ i t. (by t (before t) refl (bytes_eq t n) refl) i
  where
    by : (t : List ℕ) (o : Option ℕ) → before t ≡ o → (b : Bool) → bytes_eq t n ≡ b → o ≡ option_or o (if b then Some k else None)
    by t (Some x) e b f = refl
    by t None e false f = refl
    by t None e true f = absurd (let same : before n ≡ None = ap before (bytes_eq-to t n f) ∙ e in cc)

pub look-insert : {S : Type 0} (m n : IndexMap (Bor (List ℕ)) ℕ S) (bs : List ℕ) (k : ℕ) → is_some (look m bs) ≡ false → UpdatesBy (λ x y. bytes_eq x.now y.now) (λ k. bytes_eq bs k.now) m n (Some k) → look n ≡ with_number (look m) bs k
unfolding look with_number
look-insert m n bs k new u = λ i t. (hash_map_updates_str bs m n (Some k) u t ∙ by t (look m t) refl (bytes_eq bs t) refl ∙ ap (λ b. option_or (look m t) (if b then Some k else None)) (nat_list_eq_equiv.symm bs t)) i
  where
    by : (t : List ℕ) (o : Option ℕ) → look m t ≡ o → (b : Bool) → bytes_eq bs t ≡ b → cond b (Some k) o ≡ option_or o (if b then Some k else None)
    by t None e true f = refl
    by t None e false f = refl
    by t (Some x) e false f = refl
    by t (Some x) e true f = absurd (let same : look m bs ≡ Some x = ap (look m) (sym (bytes_eq-to bs t f)) ∙ e in cc)

pub look-empty : {X S : Type 0} (m : IndexMap (Bor (List ℕ)) X S) → m.entries ≡ [] → look m ≡ (λ t. None)
unfolding look
look-empty m e = λ i t. ap (λ es. lookup (λ k. bytes_eq t k.now) es) e i

pub next_of : {X : Type 0} (xs : List X) (i : ℕ) (x : X) → i < length xs → x ≡ get_or xs i x → take (i + 1) xs ≡ take i xs ++ x ∷ []
next_of xs i x h e = grind (arith, common_steps)

-- one more module
pub numbers-turn : (ms : List Module) (i : ℕ) (m : Module) (old new : List ℕ → Option ℕ) → i < length ms → m ≡ get_or ms i m → old ≡ number_in (take i ms) → new ≡ with_number old m.name.name i → new ≡ number_in (take (i + 1) ms)
numbers-turn ms i m old new h e f g =
    let long : i ≡ length (take i ms) = grind (arith, common_steps) in
    g
    ∙ ap (λ l. with_number l m.name.name i) f
    ∙ ap (λ k. with_number (number_in (take i ms)) m.name.name k) long
    ∙ with_number-in (take i ms) m
    ∙ ap number_in (sym (next_of ms i m h e))

pub repeated-turn : (ms : List Module) (i : ℕ) (m : Module) (known : List ℕ → Option ℕ) (first old new : Option Fault) → i < length ms → m ≡ get_or ms i m → known ≡ number_in (take i ms)
    → new ≡ earliest old (fault_if (is_some (known m.name.name)) m.name.place 5) → old ≡ earliest first (each_after repeated_fault [] (take i ms)) → new ≡ earliest first (each_after repeated_fault [] (take (i + 1) ms))
repeated-turn ms i m known first old new h e f g before =
    let same : is_some (known m.name.name) ≡ list_any (λ b. bytes_eq m.name.name b.name.name) (take i ms) = ap (λ l. is_some (l m.name.name)) f ∙ number_in-some (take i ms) m.name.name in
    g
    ∙ ap (λ b. earliest old (fault_if b m.name.place 5)) same
    ∙ ap (λ o. earliest o (repeated_fault (take i ms) m)) before
    ∙ sym (earliest-append first (each_after repeated_fault [] (take i ms)) (repeated_fault (take i ms) m))
    ∙ ap (earliest first) (sym (each_after-push repeated_fault [] (take i ms) m) ∙ ap (each_after repeated_fault []) (sym (next_of ms i m h e)))

-- one more module, of which a fault depends on its number
pub numbered-turn : (faults : ℕ → Module → List Fault) (ms : List Module) (i : ℕ) (m : Module) (first old new : Option Fault) → i < length ms → m ≡ get_or ms i m
    → new ≡ earliest old (faults i m) → old ≡ earliest first (each_after (λ before x. faults (length before) x) [] (take i ms)) → new ≡ earliest first (each_after (λ before x. faults (length before) x) [] (take (i + 1) ms))
numbered-turn faults ms i m first old new h e g before =
    let here : List Module → Module → List Fault = λ before x. faults (length before) x in
    let long : i ≡ length (take i ms) = grind (arith, common_steps) in
    g
    ∙ ap (λ k. earliest old (faults k m)) long
    ∙ ap (λ o. earliest o (here (take i ms) m)) before
    ∙ sym (earliest-append first (each_after here [] (take i ms)) (here (take i ms) m))
    ∙ ap (earliest first) (sym (each_after-push here [] (take i ms) m) ∙ ap (each_after here []) (sym (next_of ms i m h e)))

-- ---- what instances may be given

pub describe-push : (is : List Interface) (ms : List Module) (i : Interface) (m : Module) → DescribeAll is ms → Describes i m → DescribeAll (is ++ i ∷ []) (ms ++ m ∷ [])
describe-push [] [] i m h d = (d, tt)
describe-push [] (x ∷ ms) i m h d = absurd h
describe-push (j ∷ is) [] i m h d = absurd h
describe-push (j ∷ is) (x ∷ ms) i m h d = (h.0, describe-push is ms i m h.1 d)

pub describe-turn : (old new : List Interface) (ms : List Module) (k : ℕ) (i : Interface) (m : Module) → k < length ms → m ≡ get_or ms k m → new ≡ old ++ i ∷ [] → Describes i m → DescribeAll old (take k ms) → DescribeAll new (take (k + 1) ms)
describe-turn old new ms k i m h e n d before = subst (λ l. DescribeAll l (take (k + 1) ms)) (sym n) (subst (DescribeAll (old ++ i ∷ [])) (sym (next_of ms k m h e)) (describe-push old (take k ms) i m before d))

-- what an instance of the module number j may be given
pub faults_in-at : (number : List ℕ → Option ℕ) (is : List Interface) (u : Instance) (j : ℕ) (i : Interface) → number u.definition.name ≡ Some j → j < length is → i ≡ get_or is j i → faults_in number is u ≡ faults_at u i
faults_in-at number is u j i e h r = ap (faults_by_number is u) e ∙ ap (λ o. option_map_or (faults_at u) o []) (slice_get_read is (length is) j i refl h r)

pub ruleset walks = (common_steps, look-empty, number_in-some, with_number-in, has-empty, with_name-names_have, each_after-push, list_any-append, or-false)
