-- What can be read back from its bytes.
use Rattle.std.specs.Prelude.{◌≢◌, ℕ, ◌<◌, ◌^◌, List, length, ⊤}
use Rattle.std.specs.List.{AllByRecursion}
use Rattle.host_text.specs.declared.block.Stay.{Stay}
use Rattle.host_text.specs.declared.block.RunBlock.{RunBlock}
use Rattle.host_text.specs.declared.block.RefusedLine.{RefusedLine}
use Rattle.host_text.specs.declared.block.Block.{Block}
use Rattle.host_text.specs.declared.block.Block.TheVariants as b
use Rattle.host_text.specs.declared.block.Reply.{Reply}
use Rattle.host_text.specs.declared.block.Reply.TheVariants as reply_is

-- a word has no space
abbrev pub IsWord : List ℕ → Type 0
IsWord word = AllByRecursion (λ b. b ≢ 32) word

-- numbers of 64 bits
pub record IsStay (s : Stay) : Type 0 where
  pub fabric : IsWord s.fabric
  pub from : s.from < 2 ^ 64
  pub to : s.to < 2 ^ 64

pub record IsRun (a : RunBlock) : Type 0 where
  pub name : IsWord a.name
  pub ticks : a.ticks < 2 ^ 64
  pub cycles : a.cycles < 2 ^ 64
  pub bytes : length a.printed < 2 ^ 64
  pub stays : AllByRecursion IsStay a.stays

-- the words of a kind stand in one line
pub record IsRefusal (a : RefusedLine) : Type 0 where
  pub name : IsWord a.name
  pub line : a.place.line < 2 ^ 64
  pub column : a.place.column < 2 ^ 64
  pub kind : AllByRecursion (λ b. b ≢ 10) a.kind

abbrev pub IsReadable : Block → Type 0
IsReadable (b.Ran a) = IsRun a
IsReadable (b.Refused a) = IsRefusal a

-- the number of a reply has 64 bits
abbrev pub IsReply : Reply → Type 0
IsReply (reply_is.At tick) = tick < 2 ^ 64
IsReply (reply_is.Ended tick) = tick < 2 ^ 64
IsReply reply_is.Small = ⊤
IsReply reply_is.Refused = ⊤
