-- The marks of statements part by part.
use Rattle.std.proofs.Common.{◌≡◌, ℕ, Bool, true, false, List, [], ◌∷◌, ◌++◌, length, take, refl, sym, ap, ◌∙◌, append_assoc, arith}
use Rattle.std.specs.Prelude.{◌||◌, if◌then◌else◌}
use Rattle.std.proofs.lemmas.List.{take-append-le, take_all}
use Rattle.vl_design.specs.declared.design.CaseItem.{CaseItem}
use Rattle.vl_design.specs.declared.design.Stmt.{Stmt}
use Rattle.vl_design.specs.Acts.{default_body}
use Rattle.vl_design.specs.Laws.{can_act, items_can_act}
use Rattle.vl_design.specs.Syntax.{Exp, Case, Items, NoItems, Labelled, Default}
use Rattle.vl_design.specs.Trees.{stm_of}
use Rattle.sub_split.specs.Items.{items_of}
use Rattle.sub_split.specs.Marks.{marks_of, item_marks, default_marks, others_act}
use Rattle.vl_design.specs.vl_base.proofs.Booleans.{or_assoc as or-assoc, or_comm as or-comm}

-- ---- items

others-true : (items : Items) → others_act true items ≡ items_can_act items
others-true NoItems = refl
others-true (Labelled es a others) = ap (λ b. can_act a || b) (others-true others)
others-true (Default a others) = ap (λ b. can_act a || b) (others-true others)

-- the default and the other items
all-act : (items : Items) → (others_act false items || can_act (default_body items)) ≡ items_can_act items
all-act NoItems = refl
all-act (Labelled es a others) = or-assoc (can_act a) (others_act false others) (can_act (default_body others)) ∙ ap (λ b. can_act a || b) (all-act others)
all-act (Default a others) = ap (λ b. b || can_act a) (others-true others) ∙ or-comm (items_can_act others) (can_act a)

pub default-marks : (items : Items) → default_marks items ≡ marks_of (default_body items)
default-marks NoItems = refl
default-marks (Labelled es a others) = default-marks others
default-marks (Default a others) = refl

-- ---- choices

front : (xs ys : List Bool) → take (length xs) (xs ++ ys) ≡ xs
front xs ys = take-append-le (length xs) xs ys (omega arith) ∙ take_all (length xs) xs (omega arith)

settled : (held : Bool) (old one mid new first second : List Bool) (here : ℕ) → here ≡ length old → one ≡ (old ++ true ∷ []) ++ first → mid ≡ one ++ second → new ≡ (if held then mid else take here mid ++ false ∷ []) →
    new ≡ old ++ (if held then true ∷ (first ++ second) else false ∷ [])
settled held old one mid new first second here e f g h = by held (h ∙ ap (λ (n : ℕ). if held then mid else take n mid ++ false ∷ []) e)
  where
    whole : mid ≡ old ++ true ∷ (first ++ second)
    whole = g ∙ (ap (λ z. z ++ second) f ∙ (append_assoc (old ++ true ∷ []) first second ∙ append_assoc old (true ∷ []) (first ++ second)))

    by : (b : Bool) → new ≡ (if b then mid else take (length old) mid ++ false ∷ []) → new ≡ old ++ (if b then true ∷ (first ++ second) else false ∷ [])
    by true k = k ∙ whole
    by false k = k ∙ ap (λ z. z ++ false ∷ []) (ap (take (length old)) whole ∙ front old (true ∷ (first ++ second)))

-- a case
pub case-acts : (x : Stmt) (e : Exp) (xs ys : List CaseItem) (one two all : Bool) → stm_of [] x ≡ Case e (items_of [] xs) → ys ≡ xs → one ≡ others_act false (items_of [] xs) → two ≡ can_act (default_body (items_of [] ys)) → all ≡ (one || two) →
    all ≡ can_act (stm_of [] x)
case-acts x e xs ys one two all is same f g h =
    h
    ∙ (ap (λ b. b || two) f
    ∙ (ap (λ b. others_act false (items_of [] xs) || b) (g ∙ ap (λ z. can_act (default_body (items_of [] z))) same) ∙ (all-act (items_of [] xs) ∙ sym (ap can_act is))))

pub case-marks : (x : Stmt) (e : Exp) (xs ys : List CaseItem) (acts : Bool) (old pushed one mid new : List Bool) (here : ℕ) → stm_of [] x ≡ Case e (items_of [] xs) → ys ≡ xs → acts ≡ can_act (stm_of [] x) → here ≡ length old → pushed ≡ old ++ true ∷ [] →
    one ≡ pushed ++ item_marks (items_of [] xs) → mid ≡ one ++ marks_of (default_body (items_of [] ys)) → new ≡ (if acts then mid else take here mid ++ false ∷ []) → new ≡ old ++ marks_of (stm_of [] x)
case-marks x e xs ys acts old pushed one mid new here is same held k p f g h =
    let second = default_marks (items_of [] xs) in
    let g' : mid ≡ one ++ second = g ∙ ap (λ z. one ++ z) (ap (λ z. marks_of (default_body (items_of [] z))) same ∙ sym (default-marks (items_of [] xs))) in
    let f' : one ≡ (old ++ true ∷ []) ++ item_marks (items_of [] xs) = f ∙ ap (λ z. z ++ item_marks (items_of [] xs)) p in
    settled acts old one mid new (item_marks (items_of [] xs)) second here k f' g' h
    ∙ (ap (λ b. old ++ (if b then true ∷ (item_marks (items_of [] xs) ++ second) else false ∷ [])) (held ∙ ap can_act is) ∙ sym (ap (λ z. old ++ marks_of z) is))
