-- Where statements and expressions name, write, and loop over a variable (IEEE 1364-2005, clause 9.6).
use Rattle.std.specs.Prelude.{ℕ, Bool, false, not, ◌&&◌, ◌||◌, List, codes, if◌then◌else◌}
use Rattle.std.specs.Str.{bytes_eq}
use Rattle.vl_flat.specs.Surface as x
use Rattle.vl_flat.specs.Statements.{first_name}

module _ (t : List ℕ) where
  abbrev mutual
    -- the expression names t
    pub uses : x.Ex → Bool
    uses (x.Number at n) = false
    uses (x.Text at text) = false
    uses (x.Named at name ss) = bytes_eq t name || selects_use ss
    uses (x.Paren at a) = uses a
    uses (x.Unary at op a) = uses a
    uses (x.Binary at op a b) = uses a || uses b
    uses (x.Choice at c a b) = uses c || (uses a || uses b)
    uses (x.Joined at es) = some_use es
    uses (x.Repeated at n es) = uses n || some_use es
    uses (x.Called at name es) = some_use es
    uses (x.System at name given) = args_use given

    pub some_use : x.Exs → Bool
    some_use x.NoExs = false
    some_use (x.MoreExs e es) = uses e || some_use es

    pub selects_use : x.Selects → Bool
    selects_use x.NoSelects = false
    selects_use (x.Index q i others) = uses i || selects_use others
    selects_use (x.Range q mark l r others) = uses l || (uses r || selects_use others)

    pub args_use : x.Args → Bool
    args_use x.NoArgs = false
    args_use (x.NullArg others) = args_use others
    args_use (x.MoreArgs e others) = uses e || args_use others

  abbrev mutual
    -- the left side names t
    pub left_uses : x.Left → Bool
    left_uses (x.LeftName at name ss) = bytes_eq t name || selects_use ss
    left_uses (x.LeftList at ls) = lefts_use ls

    pub lefts_use : x.Lefts → Bool
    lefts_use x.NoLefts = false
    lefts_use (x.MoreLefts l ls) = left_uses l || lefts_use ls

  abbrev mutual
    -- the left side writes t, or bits of it
    pub left_writes : x.Left → Bool
    left_writes (x.LeftName at name ss) = bytes_eq t name
    left_writes (x.LeftList at ls) = lefts_write ls

    pub lefts_write : x.Lefts → Bool
    lefts_write x.NoLefts = false
    lefts_write (x.MoreLefts l ls) = left_writes l || lefts_write ls

  -- a `for` of the statement is controlled by t: t is the first name that its first assignment writes
  abbrev mutual
    pub controls : x.Statement → Bool
    controls (x.Null at) = false
    controls (x.Block at as') = some_control as'
    controls (x.If at c a b) = controls a || controls b
    controls (x.Case at wild e items) = items_control items
    controls (x.For at l e c l' e' a) = bytes_eq t (first_name l) || controls a
    controls (x.Repeat at n a) = controls a
    controls (x.Assign at blocking l e) = false
    controls (x.Task at name given) = false

    pub some_control : x.Statements → Bool
    some_control x.NoStatements = false
    some_control (x.MoreStatements a as') = controls a || some_control as'

    pub items_control : x.CaseItems → Bool
    items_control x.NoItems = false
    items_control (x.Labelled es a others) = controls a || items_control others
    items_control (x.Default a others) = controls a || items_control others

  -- t is named outside each `for` that it controls
  abbrev mutual
    pub strays : x.Statement → Bool
    strays (x.Null at) = false
    strays (x.Block at as') = some_stray as'
    strays (x.If at c a b) = uses c || (strays a || strays b)
    strays (x.Case at wild e items) = uses e || items_stray items
    strays (x.For at l e c l' e' a) =
        not (bytes_eq t (first_name l)) && (left_uses l || (uses e || (uses c || (left_uses l' || (uses e' || strays a)))))
    strays (x.Repeat at n a) = uses n || strays a
    strays (x.Assign at blocking l e) = left_uses l || uses e
    strays (x.Task at name given) = args_use given

    pub some_stray : x.Statements → Bool
    some_stray x.NoStatements = false
    some_stray (x.MoreStatements a as') = strays a || some_stray as'

    pub items_stray : x.CaseItems → Bool
    items_stray x.NoItems = false
    items_stray (x.Labelled es a others) = some_use es || (strays a || items_stray others)
    items_stray (x.Default a others) = strays a || items_stray others

  -- `$fread` writes its first argument
  abbrev pub first_is : x.Args → Bool
  first_is (x.MoreArgs (x.Named at name ss) others) = bytes_eq t name
  first_is args = false

  -- the statement writes t
  abbrev mutual
    pub writes : x.Statement → Bool
    writes (x.Null at) = false
    writes (x.Block at as') = some_write as'
    writes (x.If at c a b) = writes a || writes b
    writes (x.Case at wild e items) = items_write items
    writes (x.For at l e c l' e' a) = left_writes l || (left_writes l' || writes a)
    writes (x.Repeat at n a) = writes a
    writes (x.Assign at blocking l e) = left_writes l
    writes (x.Task at name given) = if bytes_eq name (codes "$fread") then first_is given else false

    pub some_write : x.Statements → Bool
    some_write x.NoStatements = false
    some_write (x.MoreStatements a as') = writes a || some_write as'

    pub items_write : x.CaseItems → Bool
    items_write x.NoItems = false
    items_write (x.Labelled es a others) = writes a || items_write others
    items_write (x.Default a others) = writes a || items_write others
