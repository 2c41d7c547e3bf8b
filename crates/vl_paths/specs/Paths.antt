-- Paths through a statement without loops: what is read and assigned on each.
use Rattle.std.specs.Prelude.{◌≡◌, ℕ, Bool, true, false, not, ◌||◌, ◌&&◌, List, [], ◌∷◌, ◌++◌, ◌⊎◌}
use Rattle.vl_design.specs.Syntax.{Exp, Exps, NoExps, MoreExps, Target, Stm, Nop, Then, If, Case, For, Repeat, Set, Later, Sys, Items, NoItems, Labelled, Default}
use Rattle.vl_design.specs.Width.{Names}
use Rattle.vl_paths.specs.Bits.{Bit, bit_read, some_bit_read, index_reads, bit_set}

-- a step of a path: an expression is looked at, a value is held against the labels of a case, a value is assigned
pub data Step : Type 0 where
  Looks : (e : Exp) → Step
  Tries : (e : Exp) (items : Items) → Step
  Sets : (t : Target) (e : Exp) → Step

abbrev mutual
  -- a path through the statement: tests may turn out either way
  pub IsPath : Stm → List Step → Type 0
  IsPath (Then a b) p = (q : List Step) × (r : List Step) × IsPath a q × IsPath b r × (p ≡ q ++ r)
  IsPath (If t a b) p = (q : List Step) × (IsPath a q ⊎ IsPath b q) × (p ≡ Looks t ∷ q)
  IsPath (Case e items) p = (q : List Step) × IsWay true items q × (p ≡ Tries e items ∷ q)
  IsPath (Set t e) p = p ≡ Sets t e ∷ []
  -- the others don't stand in a combinational process whose loops are unrolled
  IsPath Nop p = p ≡ []
  IsPath (For k start test step a) p = p ≡ []
  IsPath (Repeat n a) p = p ≡ []
  IsPath (Later t e) p = p ≡ []
  IsPath (Sys task) p = p ≡ []

  -- a path through one of the items; where none of them is the default, there is one on which nothing matches
  pub IsWay : Bool → Items → List Step → Type 0
  IsWay open_end NoItems p = (open_end ≡ true) × (p ≡ [])
  IsWay open_end (Labelled es a others) p = IsPath a p ⊎ IsWay open_end others p
  IsWay open_end (Default a others) p = IsPath a p ⊎ IsWay false others p

module _ (names : Names) (b : Bit) where
  -- a label of the case reads the bit
  abbrev pub label_reads : Items → Bool
  label_reads NoItems = false
  label_reads (Labelled es a others) = some_bit_read names b es || label_reads others
  label_reads (Default a others) = label_reads others

  -- the bit is assigned on the path
  abbrev pub assigned_on : List Step → Bool
  assigned_on [] = false
  assigned_on (Looks e ∷ p) = assigned_on p
  assigned_on (Tries e items ∷ p) = assigned_on p
  assigned_on (Sets t e ∷ p) = bit_set names false b t || assigned_on p

  -- it is read there before it is assigned
  abbrev pub read_first_on : List Step → Bool
  read_first_on [] = false
  read_first_on (Looks e ∷ p) = bit_read names b e || read_first_on p
  read_first_on (Tries e items ∷ p) = (bit_read names b e || label_reads items) || read_first_on p
  read_first_on (Sets t e ∷ p) = (index_reads names b t || bit_read names b e) || (not (bit_set names false b t) && read_first_on p)

  -- the bit is assigned on every path
  abbrev pub IsAssigned : Stm → Type 0
  IsAssigned a = (p : List Step) → IsPath a p → assigned_on p ≡ true

  -- on some path it is read before it is assigned
  abbrev pub IsReadFirst : Stm → Type 0
  IsReadFirst a = (p : List Step) × IsPath a p × (read_first_on p ≡ true)

  -- ---- the same without paths, bit by bit

  abbrev mutual
    pub always : Stm → Bool
    always (Then x y) = always x || always y
    always (If t x y) = always x && always y
    always (Case e items) = always_in true items
    always (Set t e) = bit_set names false b t
    always Nop = false
    always (For k start test step a) = false
    always (Repeat n a) = false
    always (Later t e) = false
    always (Sys task) = false

    pub always_in : Bool → Items → Bool
    always_in open_end NoItems = not open_end
    always_in open_end (Labelled es a others) = always a && always_in open_end others
    always_in open_end (Default a others) = always a && always_in false others

  abbrev mutual
    pub early : Stm → Bool
    early (Then x y) = early x || (not (always x) && early y)
    early (If t x y) = bit_read names b t || (early x || early y)
    early (Case e items) = (bit_read names b e || label_reads items) || early_in items
    early (Set t e) = index_reads names b t || bit_read names b e
    early Nop = false
    early (For k start test step a) = false
    early (Repeat n a) = false
    early (Later t e) = false
    early (Sys task) = false

    pub early_in : Items → Bool
    early_in NoItems = false
    early_in (Labelled es a others) = early a || early_in others
    early_in (Default a others) = early a || early_in others
