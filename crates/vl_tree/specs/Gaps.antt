-- What stands between tokens: white space, comments, attributes and two directives (IEEE 1364-2005, 3.2, 3.3, 3.8 and clause 19).
use Rattle.std.specs.Prelude.{◌≡◌, ℕ, ◌==◌, Bool, false, not, ◌||◌, ◌&&◌, List, [], ◌∷◌, ◌++◌, drop, nat_eq, IsTrue, codes}
use Rattle.std.specs.List.{starts_with}
use Rattle.vl_tree.specs.Bytes.{is_white, is_in_line, Are, Ends, begins, past}

-- `//` (IEEE 1364-2005, 3.3)
unfoldable pub opens_line : List ℕ → Bool
opens_line text = starts_with nat_eq text (codes "//")

-- `/*` (3.3)
unfoldable pub opens_block : List ℕ → Bool
opens_block text = starts_with nat_eq text (codes "/*")

-- `(*` whose next byte other than white space isn't `)` (3.8)
unfoldable pub opens_attribute : List ℕ → Bool
opens_attribute text = starts_with nat_eq text (codes "(*") && not (begins 41 (past is_white (drop 2 text)))

-- a comment or an attribute begins here (3.3, 3.8)
unfoldable pub opens : List ℕ → Bool
opens text = opens_line text || (opens_block text || opens_attribute text)

-- the two directives that are passed over, without their `` ` `` (19.8, 19.2): what begins with one is passed over to its line's end
unfoldable pub is_directive : List ℕ → Bool
is_directive text = starts_with nat_eq text (codes "timescale") || starts_with nat_eq text (codes "default_nettype")

-- somewhere in the bytes an a is followed by a b
unfoldable pub has_pair : ℕ → ℕ → List ℕ → Bool
has_pair a b [] = false
has_pair a b (c ∷ cs) = ((c == a) && begins b cs) || has_pair a b cs

-- the text is body, the first a that a b follows, this b, and rest
pub record IsUpTo (a b : ℕ) (text rest : List ℕ) : Type 0 where
  pub body : List ℕ
  pub spelled : text ≡ body ++ (a ∷ b ∷ rest)
  pub is_first : has_pair a b (body ++ (a ∷ [])) ≡ false

-- the text is a part of one line, and rest, which is the end or begins with a newline
pub record IsLine (text rest : List ℕ) : Type 0 where
  pub line : List ℕ
  pub spelled : text ≡ line ++ rest
  pub in_line : Are is_in_line line
  pub ends : Ends is_in_line rest

-- A gap stands at the front of the text, and rest follows it.
pub data IsGap (text rest : List ℕ) : Type 0 where
  white : {b : ℕ} → text ≡ b ∷ rest → IsTrue (is_white b) → IsGap text rest
  line_comment : IsTrue (opens_line text) → IsLine (drop 2 text) rest → IsGap text rest
  block_comment : IsTrue (opens_block text) → IsUpTo 42 47 (drop 2 text) rest → IsGap text rest
  attribute : IsTrue (opens_attribute text) → IsUpTo 42 41 (drop 2 text) rest → IsGap text rest
  directive : {name : List ℕ} → text ≡ 96 ∷ name → IsTrue (is_directive name) → IsLine name rest → IsGap text rest
