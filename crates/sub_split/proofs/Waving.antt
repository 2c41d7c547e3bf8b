-- The blocks of a wave, and the table of a design.
use Rattle.std.proofs.Common.{◌≡◌, ℕ, ◌+◌, Bool, true, false, List, [], ◌∷◌, ◌++◌, map, length, refl, sym, ap, ◌∙◌, arith, append-nil}
use Rattle.std.specs.Prelude.{◌||◌}
use Rattle.vl_design.specs.declared.design.Design.{Design}
use Rattle.vl_design.specs.declared.design.Process.{Process}
use Rattle.vl_design.specs.declared.design.ProcKind.{ProcKind}
use Rattle.vl_design.specs.declared.design.ProcKind.TheVariants.{Init, Rise, Fall}
use Rattle.vl_design.specs.Syntax.{Proc, Flat}
use Rattle.vl_design.specs.Queue.{is_init, is_rise, is_fall}
use Rattle.vl_design.specs.Alone.{blocks}
use Rattle.vl_design.specs.Trees.{stm_of, proc_of, flat_of}
use Rattle.vl_design.proofs.TreeLemmas.{procs-map}
use Rattle.vl_design.proofs.Unread.{or_false}
use Rattle.sub_nodes.specs.Nodes.{still, rising, Node, Table}
use Rattle.sub_nodes.specs.Implements.{bodies}
use Rattle.sub_nodes.specs.Code.{Made, number, split, split_all, wave_nodes, wave_first, fall_nodes, updates, table_of}
use Rattle.sub_split.specs.declared.making.Head.{Head}
use Rattle.sub_split.specs.declared.making.Nodes.{Nodes}
use Rattle.sub_split.specs.declared.waves.Part.{Part}
use Rattle.sub_split.specs.Makes.{nodes_view, made_view, Makes, Splits}
use Rattle.sub_split.specs.Marks.{marks_of}
use Rattle.sub_split.specs.Waves.{has_fall, is_of, statements_of, update_nodes, first_early, IsPart}
use Rattle.vl_design.proofs.Shared.{blocks-passed as passed, blocks-taken as taken}

-- ---- blocks

-- a block that belongs to the wave
pub block-taken : (wave : ProcKind) (x : Process) (old new : Nodes) (g h : Head) (r : Bool) (marks after : List Bool) → r ≡ is_of wave x.kind → r ≡ true → marks ≡ marks_of (stm_of [] x.body) →
    Splits marks after (marks_of (stm_of [] x.body)) old new h (split old.from (stm_of x.path x.body) (made_view old g)) → (ps : List Proc) (m : Made) → made_view old g ≡ split_all old.from (bodies (blocks (is_of wave) ps)) m →
    Makes old new h (split_all old.from (bodies (blocks (is_of wave) (proc_of x ∷ ps))) m)
block-taken wave x old new g h r marks after e f is s ps m k =
    let same = taken (is_of wave) (proc_of x) ps (sym e ∙ f) in
    let made = s [] (is ∙ sym (append-nil (marks_of (stm_of [] x.body)))) in
    record { from = made.1.from; made = made.1.made ∙ (ap (split old.from (stm_of x.path x.body)) k ∙ sym (ap (λ bs. split_all old.from (bodies bs) m) same)) }

-- ---- waves of the clock's fall

no-falls : (xs : List Process) → has_fall xs ≡ false → blocks is_fall (map proc_of xs) ≡ []
no-falls [] h = refl
no-falls (x ∷ xs) h =
    let parts = or_false (is_fall x.kind) (has_fall xs) h in
    passed is_fall (proc_of x) (map proc_of xs) (parts.0) ∙ no-falls xs (parts.1)

some-falls : (xs : List Process) → has_fall xs ≡ true → (p : Proc) × (ps : List Proc) × (blocks is_fall (map proc_of xs) ≡ p ∷ ps)
some-falls [] h = let z : ⊥ = cc in absurd z
some-falls (x ∷ xs) h = by (is_fall x.kind) refl h (some-falls xs)
  where
    by : (b : Bool) → is_fall x.kind ≡ b → (b || has_fall xs) ≡ true → (has_fall xs ≡ true → (p : Proc) × (ps : List Proc) × (blocks is_fall (map proc_of xs) ≡ p ∷ ps)) →
        (p : Proc) × (ps : List Proc) × (blocks is_fall (map proc_of (x ∷ xs)) ≡ p ∷ ps)
    by true e k f = (proc_of x, blocks is_fall (map proc_of xs), taken is_fall (proc_of x) (map proc_of xs) e)
    by false e k f = let r = f k in (r.0, r.1, passed is_fall (proc_of x) (map proc_of xs) e ∙ r.2)

updates-are : (b : Bool) (xs : List Process) → b ≡ has_fall xs → (rise fall : ℕ) → updates (blocks is_fall (map proc_of xs)) rise fall ≡ update_nodes b rise fall
updates-are true xs h rise fall = let r = some-falls xs (sym h) in ap (λ ps. updates ps rise fall) (r.2)
updates-are false xs h rise fall = ap (λ ps. updates ps rise fall) (no-falls xs (sym h))

pub fall-taken : (from : ℕ) (xs : List Process) (b : Bool) (p : Part) → b ≡ has_fall xs → b ≡ true → IsPart from (wave_first from 2 (statements_of Fall xs)) (wave_nodes from 2 (statements_of Fall xs) still) p →
    IsPart from (wave_first from 2 (statements_of Fall xs)) (fall_nodes from (blocks is_fall (map proc_of xs))) p
fall-taken from xs b p h t x =
    let r = some-falls xs (sym h ∙ t) in
    let some : wave_nodes from 2 (bodies (blocks is_fall (map proc_of xs))) still ≡ fall_nodes from (blocks is_fall (map proc_of xs)) =
    ap (λ ps. wave_nodes from 2 (bodies ps) still) (r.2) ∙ sym (ap (fall_nodes from) (r.2)) in
    record { numbered = x.numbered; begins = x.begins; are = x.are ∙ some }

pub fall-passed : (from : ℕ) (xs : List Process) (b : Bool) (nodes : Nodes) (p : Part) → b ≡ has_fall xs → b ≡ false → nodes.from ≡ from → nodes_view nodes ≡ [] → p ≡ record { first = from; nodes = nodes } →
    IsPart from (wave_first from 2 (statements_of Fall xs)) (fall_nodes from (blocks is_fall (map proc_of xs))) p
fall-passed from xs b nodes p h t e none is =
    let no = no-falls xs (sym h ∙ t) in
    let here : from ≡ from + 0 = omega arith in
    record {
      numbered = ap (λ (z : Part). z.nodes.from) is ∙ e;
      begins = ap (λ (z : Part). z.first) is ∙ (here ∙ sym (ap (λ ps. wave_first from 2 (bodies ps)) no));
      are = ap (λ (z : Part). nodes_view z.nodes) is ∙ (none ∙ sym (ap (fall_nodes from) no));
    }

-- ---- the table

-- the table of processes
abbrev table_at : List Proc → Table
table_at ps =
    let ups = bodies (blocks is_rise ps) in
    let falls = blocks is_fall ps in
    let inits = bodies (blocks is_init ps) in
    let from = length (updates falls 0 0) in
    let rise = wave_first from 1 ups in
    let up = wave_nodes from 1 ups rising in
    let fall = wave_first (from + length up) 2 (bodies falls) in
    let down = fall_nodes (from + length up) falls in
    let first = wave_nodes (from + length up + length down) 0 inits still in
    record {
      nodes = updates falls rise fall ++ (up ++ (down ++ first));
      zero = record { first = wave_first (from + length up + length down) 0 inits; update = 0 };
      rise = record { first = rise; update = 1 };
      fall = record { first = fall; update = 2 };
    }

parts-are : (ps : List Proc) (k1 k2 k3 a b d : ℕ) (up down start nodes : List Node) → k1 ≡ length (updates (blocks is_fall ps) 0 0) → a ≡ wave_first k1 1 (bodies (blocks is_rise ps)) → up ≡ wave_nodes k1 1 (bodies (blocks is_rise ps)) rising →
    k2 ≡ k1 + length up → b ≡ wave_first k2 2 (bodies (blocks is_fall ps)) → down ≡ fall_nodes k2 (blocks is_fall ps) →
    k3 ≡ k2 + length down → d ≡ wave_first k3 0 (bodies (blocks is_init ps)) → start ≡ wave_nodes k3 0 (bodies (blocks is_init ps)) still →
    nodes ≡ updates (blocks is_fall ps) a b ++ (up ++ (down ++ start)) →
    record { nodes = nodes; zero = record { first = d; update = 0 }; rise = record { first = a; update = 1 }; fall = record { first = b; update = 2 } } ≡ table_at ps
parts-are ps k1 k2 k3 a b d up down start nodes e1 ea eu e2 eb ed e3 es et en = rw (en, et, es, e3, ed, eb, e2, eu, ea, e1) refl

number-is : (from : ℕ) (p : Part) (first : ℕ) (nodes : List Node) (n : ℕ) → IsPart from first nodes p → n ≡ number p.nodes.from (nodes_view p.nodes) → n ≡ from + length nodes
number-is from p first nodes n x e = e ∙ (ap (λ j. number j (nodes_view p.nodes)) (x.numbered) ∙ ap (number from) (x.are))

pub table-is : (d : Design) (xs : List Process) (b : Bool) (k k2 k3 : ℕ) (up down start : Part) (nodes : List Node) → xs ≡ d.processes → b ≡ has_fall xs → k ≡ length (update_nodes b 0 0) →
    IsPart k (wave_first k 1 (statements_of Rise xs)) (wave_nodes k 1 (statements_of Rise xs) rising) up → k2 ≡ number up.nodes.from (nodes_view up.nodes) →
    IsPart k2 (wave_first k2 2 (statements_of Fall xs)) (fall_nodes k2 (blocks is_fall (map proc_of xs))) down → k3 ≡ number down.nodes.from (nodes_view down.nodes) →
    IsPart k3 (wave_first k3 0 (statements_of Init xs)) (wave_nodes k3 0 (statements_of Init xs) still) start →
    nodes ≡ update_nodes b up.first down.first ++ (nodes_view up.nodes ++ (nodes_view down.nodes ++ nodes_view start.nodes)) →
    record { nodes = nodes; zero = record { first = start.first; update = 0 }; rise = record { first = up.first; update = 1 }; fall = record { first = down.first; update = 2 } } ≡ table_of (flat_of d)
table-is d xs b k k2 k3 up down start nodes is h e u e2 v e3 w all =
    let procs : (flat_of d).procs ≡ map proc_of xs = procs-map d.processes ∙ ap (map proc_of) (sym is) in
    let ups = updates-are b xs h in
    parts-are (map proc_of xs) k k2 k3 up.first down.first start.first (nodes_view up.nodes) (nodes_view down.nodes) (nodes_view start.nodes) nodes
    (e ∙ sym (ap length (ups 0 0))) (u.begins) (u.are) (number-is k up _ _ k2 u e2 ∙ ap (λ ns. k + length ns) (sym (u.are))) (v.begins) (v.are) (number-is k2 down _ _ k3 v e3 ∙ ap (λ ns. k2 + length ns) (sym (v.are))) (w.begins) (w.are)
    (all ∙ sym (ap (λ ns. ns ++ (nodes_view up.nodes ++ (nodes_view down.nodes ++ nodes_view start.nodes))) (ups up.first down.first)))
    ∙ sym (ap table_at procs)

-- ---- time zero's wave

early-adds : (d : Flat) (ps : List Proc) (k k2 k3 : ℕ) → ps ≡ d.procs → k ≡ length (updates (blocks is_fall ps) 0 0) → k2 ≡ k + length (wave_nodes k 1 (bodies (blocks is_rise ps)) rising) → k3 ≡ k2 + length (fall_nodes k2 (blocks is_fall ps)) →
    k3 ≡ first_early d
early-adds d ps k k2 k3 s e e2 e3 = rw (e3, e2, e, s) refl

-- the number of its first node
pub early-is : (d : Design) (xs : List Process) (b : Bool) (k k2 k3 : ℕ) (up down : Part) → xs ≡ d.processes → b ≡ has_fall xs → k ≡ length (update_nodes b 0 0) →
    IsPart k (wave_first k 1 (statements_of Rise xs)) (wave_nodes k 1 (statements_of Rise xs) rising) up → k2 ≡ number up.nodes.from (nodes_view up.nodes) →
    IsPart k2 (wave_first k2 2 (statements_of Fall xs)) (fall_nodes k2 (blocks is_fall (map proc_of xs))) down → k3 ≡ number down.nodes.from (nodes_view down.nodes) →
    k3 ≡ first_early (flat_of d)
early-is d xs b k k2 k3 up down is h e u e2 v e3 =
    let procs : map proc_of xs ≡ (flat_of d).procs = ap (map proc_of) is ∙ sym (procs-map d.processes) in
    early-adds (flat_of d) (map proc_of xs) k k2 k3 procs (e ∙ sym (ap length (updates-are b xs h 0 0))) (number-is k up _ _ k2 u e2) (number-is k2 down _ _ k3 v e3)
