-- What the slots of a system call hold (IEEE 1364-2005, clause 17).
use Rattle.std.specs.Prelude.{ℕ, List, [], ◌∷◌, map}
use Rattle.vl_design.specs.Syntax.{Exp, Piece, Literal, Shown, Task, Print, Fread, Fgetc, Feof, Fclose}
use Rattle.vl_design.specs.Tasks.{descriptor_of}
use Rattle.vl_design.specs.Value.{Sample, own_value}
use Rattle.vl_design.specs.Width.{Names, Scope, form}

-- the expressions that pieces show, in order (clause 17.1.1)
abbrev pub shown : List Piece → List Exp
shown [] = []
shown (Literal text ∷ ps) = shown ps
shown (Shown format e ∷ ps) = e ∷ shown ps

-- of a display the value of each expression that it shows; of a call on an open file its descriptor, of 32 bits (clause 17.2.1)
abbrev pub asked : Scope → Sample → Task → List ℕ
asked scope s (Print pieces newline) = map (own_value scope s) (shown pieces)
asked scope s (Fread k fd) = descriptor_of scope s fd ∷ []
asked scope s (Fgetc fd) = descriptor_of scope s fd ∷ []
asked scope s (Feof fd) = descriptor_of scope s fd ∷ []
asked scope s (Fclose fd) = descriptor_of scope s fd ∷ []
asked scope s task = []

-- the widths of expressions read for themselves
abbrev pub own_widths : Names → List Exp → List ℕ
own_widths names es = map (λ e. (form names e).width) es

-- how wide the slots are
abbrev pub asked_widths : Names → Task → List ℕ
asked_widths names (Print pieces newline) = own_widths names (shown pieces)
asked_widths names (Fread k fd) = 32 ∷ []
asked_widths names (Fgetc fd) = 32 ∷ []
asked_widths names (Feof fd) = 32 ∷ []
asked_widths names (Fclose fd) = 32 ∷ []
asked_widths names task = []
