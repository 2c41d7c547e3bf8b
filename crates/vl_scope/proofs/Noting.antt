-- The turns of the loops that note faults.
use Rattle.std.proofs.Common.{◌≡◌, ℕ, ◌<◌, ◌+◌, Bool, not, List, [], ◌∷◌, ◌++◌, length, map, take, get_or, Option, Bor, sym, ap, ◌∙◌, append-nil}
use Rattle.std.specs.List.{flat_map}
use Rattle.std.proofs.lemmas.List.{map_push, take_more}
use Rattle.std.proofs.lemmas.Grind.{flat_map-append}
use Rattle.indexmap.specs.IndexMap.{IndexMap}
use Rattle.indexmap.specs.IndexSet.{IndexSet}
use Rattle.vl_tree.specs.declared.tree.Identifier.{Identifier}
use Rattle.vl_scope.specs.declared.fault.Fault.{Fault}
use Rattle.vl_scope.specs.declared.marks.Marks.{Marks}
use Rattle.vl_scope.specs.Faults.{earliest, fault_if}
use Rattle.vl_scope.specs.Declarations.{Declared}
use Rattle.vl_scope.specs.DeclarationFaults.{clashes, directs, declaration_faults_after, scope_faults, names_have, repeated_after, repeated_faults, undirected_faults, unlisted_faults}
use Rattle.vl_scope.specs.Keys.{has}
use Rattle.vl_scope.specs.Marks.{marks_of, marks_in, marks_at, clash_of, mismatch_of}
use Rattle.vl_scope.proofs.Orders.{earliest-append}
use Rattle.vl_scope.proofs.Members.{each_after-push}
use Rattle.vl_scope.proofs.Repeats.{clashes-marks, mismatches-marks, directs-marks}
pub use Rattle.vl_base.proofs.Lists.{map_take_more as push_seen}

pub repeated_faults-push : (ns : List Identifier) (n : Identifier) → repeated_faults (ns ++ n ∷ []) ≡ repeated_faults ns ++ fault_if (names_have ns n.name) n.place 3
repeated_faults-push ns n = each_after-push repeated_after [] ns n

pub scope_faults-push : (all : List Declared) (a : Declared) → scope_faults (all ++ a ∷ []) ≡ scope_faults all ++ declaration_faults_after all a
scope_faults-push all a = each_after-push declaration_faults_after [] all a

-- what a declaration gives by what is known of its name
pub by_marks : (before : List Declared) (a : Declared) (known : Marks) → known ≡ marks_in before a.name.name
    → fault_if (clash_of known (marks_of a)) a.name.place 3 ++ fault_if (mismatch_of known (marks_of a)) a.name.place 4 ≡ declaration_faults_after before a
by_marks before a known e =
    ap (λ m. fault_if (clash_of m (marks_of a)) a.name.place 3 ++ fault_if (mismatch_of m (marks_of a)) a.name.place 4) e
    ∙ ap (λ b. fault_if b a.name.place 3 ++ fault_if (mismatch_of (marks_in before a.name.name) (marks_of a)) a.name.place 4) (clashes-marks before a)
    ∙ ap (λ b. fault_if (clashes before a) a.name.place 3 ++ fault_if b a.name.place 4) (mismatches-marks before a)

pub undirected-marks : {S : Type 0} (known : IndexMap (Bor (List ℕ)) Marks S) (all : List Declared) (names : List Identifier) → ((t : List ℕ) → marks_at known t ≡ marks_in all t)
    → flat_map (λ n. fault_if (not (marks_at known n.name).directed) n.place 7) names ≡ undirected_faults all names
undirected-marks known all names h = ap (λ (d : List ℕ → Bool). flat_map (λ n. fault_if (not (d n.name)) n.place 7) names) (λ i t. same t i)
  where
    same : (t : List ℕ) → (marks_at known t).directed ≡ directs all t
    same t = ap (λ m. m.directed) (h t) ∙ directs-marks all t

pub unlisted-has : {S : Type 0} (known : IndexSet (Bor (List ℕ)) S) (names : List Identifier) (all : List Declared) → ((t : List ℕ) → has known t ≡ names_have names t)
    → flat_map (λ a. fault_if (not (has known a.name.name)) a.name.place 7) all ≡ unlisted_faults names all
unlisted-has known names all h = ap (λ (d : List ℕ → Bool). flat_map (λ a. fault_if (not (d a.name.name)) a.name.place 7) all) (λ i t. h t i)

-- one more item of a list, where each gives faults
pub noted_turn : {X Y : Type 0} (faults : Y → List Fault) (see : X → Y) (xs : List X) (i : ℕ) (x : X) (first best new : Option Fault) → i < length xs → x ≡ get_or xs i x
    → best ≡ earliest first (flat_map faults (map see (take i xs))) → new ≡ earliest best (faults (see x)) → new ≡ earliest first (flat_map faults (map see (take (i + 1) xs)))
noted_turn faults see xs i x first best new l e before now =
    now
    ∙ ap (λ b. earliest b (faults (see x))) before
    ∙ sym (earliest-append first (flat_map faults (map see (take i xs))) (faults (see x)))
    ∙ ap (earliest first) (ap (λ ys. flat_map faults (map see (take i xs)) ++ ys) (sym (append-nil (faults (see x)))) ∙ sym (flat_map-append faults (map see (take i xs)) (see x ∷ [])))
    ∙ ap (λ ys. earliest first (flat_map faults ys)) (sym (push_seen see xs i x l e))

-- five lists, one after the other
pub earliest_of_five : (best : Option Fault) (a b c d e : List Fault) → earliest best (a ++ (b ++ (c ++ (d ++ e)))) ≡ earliest (earliest (earliest (earliest (earliest best a) b) c) d) e
earliest_of_five best a b c d e =
    earliest-append best a _
    ∙ earliest-append (earliest best a) b _
    ∙ earliest-append (earliest (earliest best a) b) c _
    ∙ earliest-append (earliest (earliest (earliest best a) b) c) d e
