-- The nodes of statements that begin so.
use Rattle.std.proofs.Common.{◌≡◌, ℕ, ◌+◌, Bool, List, [], ◌∷◌, ◌++◌, map, reverse, sym, ap, ◌∙◌, append_assoc, append-nil}
use Rattle.vl_design.specs.Syntax.{Stm, Task}
use Rattle.sub_nodes.specs.Nodes.{Segment, WayOn, Go, Run, Trap, Node}
use Rattle.sub_nodes.specs.Code as c
use Rattle.sub_nodes.specs.Code.{and_all, head_nodes, Head, Next}
use Rattle.sub_split.specs.declared.making.Head.{Head as HeadCode}
use Rattle.sub_split.specs.declared.making.Next.TheVariants as x
use Rattle.sub_split.specs.declared.table.Piece.{Piece}
use Rattle.sub_split.specs.declared.table.WayOn.{WayOn as WayOnCode}
use Rattle.sub_split.specs.Makes.{head_view, next_view}
use Rattle.sub_split.specs.Views.{piece_view, way_on_view}

abbrev pub from_rise : Bool → Segment
from_rise b = record { rises = b; statements = [] }

abbrev pub stretch : Bool → List Stm → Segment
stretch b xs = record { rises = b; statements = xs }

all-is : (g : Segment) (xs : List Stm) → and_all g xs ≡ stretch g.rises (g.statements ++ xs)
all-is g [] = ap (stretch g.rises) (sym (append-nil g.statements))
all-is g (x ∷ xs) = all-is (stretch g.rises (g.statements ++ x ∷ [])) xs ∙ ap (stretch g.rises) (append_assoc g.statements (x ∷ []) xs)

calls-is : (b : Bool) (xs : List Stm) (task : Task) (to n : ℕ) → head_nodes (record { statements = xs; next = c.Calls task to }) (from_rise b) n ≡ Run (stretch b xs) (Go (n + 1)) ∷ Trap task to ∷ []
calls-is b xs task to n = ap (λ g. Run g (Go (n + 1)) ∷ Trap task to ∷ []) (all-is (from_rise b) xs)

leads-is : (b : Bool) (xs : List Stm) (on : WayOn) (n : ℕ) → head_nodes (record { statements = xs; next = c.Leads on }) (from_rise b) n ≡ Run (stretch b xs) on ∷ []
leads-is b xs on n = ap (λ g. Run g on ∷ []) (all-is (from_rise b) xs)

-- a head with this way on, whose pieces were turned round
pub place-leads : (b : Bool) (h : HeadCode) (on : WayOnCode) (pieces : List Piece) (nodes new : List Node) (n : ℕ) → h.next ≡ x.Leads on → pieces ≡ reverse h.statements.items →
    new ≡ nodes ++ Run (stretch b (map piece_view pieces)) (way_on_view on) ∷ [] → new ≡ nodes ++ head_nodes (head_view h) (from_rise b) n
place-leads b h on pieces nodes new n e f k =
    k
    ∙ ap (λ z. nodes ++ z)
    (ap (λ (ps : List Piece). Run (stretch b (map piece_view ps)) (way_on_view on) ∷ []) f
    ∙ (sym (leads-is b (map piece_view (reverse h.statements.items)) (way_on_view on) n)
    ∙ sym (ap (λ z. head_nodes (record { statements = map piece_view (reverse h.statements.items); next = next_view z }) (from_rise b) n) e)))

-- with this call
pub place-calls : (b : Bool) (h : HeadCode) (path call : _) (to : ℕ) (pieces : List Piece) (nodes mid new : List Node) (n trap : ℕ) (task : Task) → h.next ≡ x.Calls path call to → next_view (x.Calls path call to) ≡ c.Calls task to → trap ≡ n + 1 →
    pieces ≡ reverse h.statements.items → mid ≡ nodes ++ Run (stretch b (map piece_view pieces)) (Go trap) ∷ [] → new ≡ mid ++ Trap task to ∷ [] → new ≡ nodes ++ head_nodes (head_view h) (from_rise b) n
place-calls b h path call to pieces nodes mid new n trap task e v t f k l =
    l
    ∙ (ap (λ z. z ++ Trap task to ∷ []) k
    ∙ (append_assoc nodes (Run (stretch b (map piece_view pieces)) (Go trap) ∷ []) (Trap task to ∷ [])
    ∙ ap (λ z. nodes ++ z)
    (ap (λ (j : ℕ). Run (stretch b (map piece_view pieces)) (Go j) ∷ Trap task to ∷ []) t
    ∙ (ap (λ (ps : List Piece). Run (stretch b (map piece_view ps)) (Go (n + 1)) ∷ Trap task to ∷ []) f
    ∙ (sym (calls-is b (map piece_view (reverse h.statements.items)) task to n)
    ∙ sym (ap (λ z. head_nodes (record { statements = map piece_view (reverse h.statements.items); next = z }) (from_rise b) n) (ap next_view e ∙ v)))))))
