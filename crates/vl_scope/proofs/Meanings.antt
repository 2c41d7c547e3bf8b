-- What names mean and how parameters are numbered.
use Rattle.std.proofs.Common.{◌≡◌, ℕ, ◌+◌, Bool, true, false, ◌||◌, if◌then◌else◌, List, [], ◌∷◌, ◌++◌, Option, Some, None, is_some, ◌↔◌, refl, sym, ap, ◌∙◌, add_assoc, arith}
use Rattle.std.specs.List.{list_any, count_by, fold}
use Rattle.std.specs.Str.{bytes_eq}
use Rattle.std.proofs.lemmas.Bool.{true≢false}
use Rattle.std.proofs.lemmas.List.Sums.{sum_by-cons}
use Rattle.vl_tree.specs.declared.source_tree.Module.{Module}
use Rattle.vl_scope.specs.declared.kind.Class.{Class}
use Rattle.vl_scope.specs.declared.kind.Class.TheVariants as c
use Rattle.vl_scope.specs.declared.kind.Kind.{Kind}
use Rattle.vl_scope.specs.Faults.{In}
use Rattle.vl_scope.specs.Declarations.{Declared, declarations, unnumbered, is_parameter, with_number, number_after, numbered, with_declaration, kind_after, kind_in}
use Rattle.vl_scope.proofs.Members.{list_any-In, list_any-In_cases}
use Rattle.vl_scope.proofs.Listed.{bytes_eq-from, bytes_eq-to}

-- ---- names that are declared

known_after : (t : List ℕ) (known : Option Kind) (ds : List Declared) → is_some (fold (kind_after t) known ds) ≡ (is_some known || list_any (λ a. bytes_eq t a.name.name) ds)
known_after t None [] = refl
known_after t (Some k) [] = refl
known_after t known (a ∷ ds) = known_after t (kind_after t known a) ds ∙ ap (λ b. b || list_any (λ a. bytes_eq t a.name.name) ds) (by known (bytes_eq t a.name.name)) ∙ assoc (is_some known) (bytes_eq t a.name.name) _
  where
    by : (known : Option Kind) (b : Bool) → is_some (if b then with_declaration known a else known) ≡ (is_some known || b)
    by None true = refl
    by None false = refl
    by (Some k) true = refl
    by (Some k) false = refl

    assoc : (x y z : Bool) → ((x || y) || z) ≡ (x || (y || z))
    assoc true y z = refl
    assoc false y z = refl

-- a spelling means something just where a declaration has it
pub kind_in-some : (ds : List Declared) (t : List ℕ) → is_some (kind_in ds t) ≡ list_any (λ a. bytes_eq t a.name.name) ds
kind_in-some ds t = known_after t None ds

pub kind_in-none : (ds : List Declared) (t : List ℕ) → (kind_in ds t ≡ None) ↔ ((a : Declared) → In a ds → a.name.name ≡ t → ⊥)
kind_in-none ds t = (λ h a there same. true≢false (sym (kind_in-some ds t ∙ list_any-In (λ a. bytes_eq t a.name.name) a ds there (bytes_eq-from t a.name.name same)) ∙ ap is_some h), λ h. by (kind_in ds t) refl h)
  where
    by : (o : Option Kind) → kind_in ds t ≡ o → ((a : Declared) → In a ds → a.name.name ≡ t → ⊥) → o ≡ None
    by None e h = refl
    by (Some k) e h = let r = list_any-In_cases (λ a. bytes_eq t a.name.name) ds (sym (kind_in-some ds t) ∙ ap is_some e) in absurd (h r.0 r.1 (bytes_eq-to t r.0.name.name r.2))

-- ---- the numbers of parameters

abbrev parameters_in : List Declared → ℕ
parameters_in ds = count_by (λ a. is_parameter a.kind.class) ds

number_of : (n : ℕ) (x : Declared) (k : ℕ) → (with_number n x).kind.class ≡ c.Parameter k → k ≡ n
number_of n x k h = by (is_parameter x.kind.class) refl h
  where
    other : (class : Class) → is_parameter class ≡ false → class ≡ c.Parameter k → k ≡ n
    other class e h = absurd (true≢false (sym (ap is_parameter h) ∙ e))

    by : (b : Bool) → is_parameter x.kind.class ≡ b → (if b then record x { kind = record { class = c.Parameter n; vector = x.kind.vector } } else x).kind.class ≡ c.Parameter k → k ≡ n
    by true e h = cc
    by false e h = other x.kind.class e h

next_number : (n : ℕ) (x : Declared) → number_after n x ≡ n + (if is_parameter (with_number n x).kind.class then 1 else 0)
next_number n x = by (is_parameter x.kind.class) refl
  where
    by : (b : Bool) → is_parameter x.kind.class ≡ b → (if b then n + 1 else n) ≡ n + (if is_parameter (if b then record x { kind = record { class = c.Parameter n; vector = x.kind.vector } } else x).kind.class then 1 else 0)
    by true e = refl
    by false e = rw e (omega arith)

numbered-number : (n : ℕ) (xs before after : List Declared) (a : Declared) (k : ℕ) → numbered n xs ≡ before ++ a ∷ after → a.kind.class ≡ c.Parameter k → k ≡ n + parameters_in before
numbered-number n [] [] after a k e h = absurd cc
numbered-number n [] (y ∷ before) after a k e h = absurd cc
numbered-number n (x ∷ xs) [] after a k e h = let same : with_number n x ≡ a = cc in number_of n x k (ap (λ d. d.kind.class) same ∙ h) ∙ omega arith
numbered-number n (x ∷ xs) (y ∷ before) after a k e h =
    let same : with_number n x ≡ y = cc in
    let rest : numbered (number_after n x) xs ≡ before ++ a ∷ after = cc in
    let here : number_after n x ≡ n + (if is_parameter y.kind.class then 1 else 0) = next_number n x ∙ ap (λ d. n + (if is_parameter d.kind.class then 1 else 0)) same in
    numbered-number (number_after n x) xs before after a k rest h ∙ ap (λ m. m + parameters_in before) here ∙ add_assoc n (if is_parameter y.kind.class then 1 else 0) (parameters_in before)
    ∙ ap (λ m. n + m) (sym (sum_by-cons (λ a. if is_parameter a.kind.class then 1 else 0) y before))

-- a parameter has the number of those declared before it
pub parameter-number : (m : Module) (before after : List Declared) (a : Declared) (n : ℕ) → declarations m ≡ before ++ a ∷ after → a.kind.class ≡ c.Parameter n → n ≡ count_by (λ d. is_parameter d.kind.class) before
parameter-number m before after a n e h = numbered-number 0 (unnumbered m) before after a n e h ∙ omega arith
