-- Words of the laws.
use Rattle.std.specs.Prelude.{◌≡◌, ℕ, ◌≤◌, Bool, ◌&&◌, ◌==◌, length, filter, List, [], ◌∷◌, Option, Some, ⊤}
use Rattle.std.specs.List.{AllByRecursion}
use Rattle.host_text.specs.vl_design.specs.Alone.{Errand}
use Rattle.host_text.specs.declared.block.Block.{Block}
use Rattle.host_text.specs.declared.block.Block.TheVariants as b
use Rattle.host_text.specs.Readable.{IsReadable, IsReply}
use Rattle.host_text.specs.declared.script.Script.{Script}
use Rattle.host_form.specs.Origins.{Source, Tenant}
use Rattle.host_form.specs.Orders.{Answered}
use Rattle.host_form.specs.Runs.{Outcome}
use Rattle.host_form.specs.Reports.{blocks_of}

-- no tick is below one before it
abbrev pub AreAscending : List Errand → Type 0
AreAscending [] = ⊤
AreAscending (e ∷ es) = AllByRecursion (λ f. e.tick ≤ f.tick) es × AreAscending es

-- each text is judged in one way at most
abbrev pub IsOneJudgement : (List ℕ → Source → Type 0) → Type 0
IsOneJudgement judged = (text : List ℕ) (a b : Source) → judged text a → judged text b → a ≡ b

-- what texts are judged to be, where a function says it
abbrev pub Judges : (List ℕ → Option Source) → List ℕ → Source → Type 0
Judges judge text x = judge text ≡ Some x

-- the tenant of which a block tells
abbrev pub name_of : Block → List ℕ
name_of (b.Ran a) = a.name
name_of (b.Refused a) = a.name

-- the words of a report are words, and its numbers have 64 bits
pub record IsTellable (s : Script) (tenants : List Tenant) (outcomes : List Outcome) (answers : List Answered) : Type 0 where
  pub blocks : AllByRecursion IsReadable (blocks_of s tenants outcomes)
  pub replies : AllByRecursion (λ a. IsReply a.reply) answers
