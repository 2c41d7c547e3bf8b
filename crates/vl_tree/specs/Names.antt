-- Names, and the reserved words.
use Rattle.std.specs.Prelude.{ℕ, Bool, List, [], ◌∷◌, IsTrue, codes}
use Rattle.std.specs.List.{list_any}
use Rattle.std.specs.Str.{bytes_eq}
use Rattle.vl_tree.specs.Bytes.{is_letter, is_name_byte, is_printed, Are}

-- a letter or `_`, then letters, figures, `_` and `$` (IEEE 1364-2005, 3.7)
abbrev pub IsName : List ℕ → Type 0
IsName [] = ⊥
IsName (b ∷ bs) = IsTrue (is_letter b) × Are is_name_byte bs

-- one or more bytes, each of which passes
abbrev pub IsSomeOf : (ℕ → Bool) → List ℕ → Type 0
IsSomeOf p [] = ⊥
IsSomeOf p (b ∷ bs) = Are p (b ∷ bs)

-- the bytes after the `\` of an escaped name (3.7.1)
abbrev pub IsEscaped : List ℕ → Type 0
IsEscaped = IsSomeOf is_printed

-- the bytes after the `$` of a system name (3.7.3)
abbrev pub IsSystem : List ℕ → Type 0
IsSystem = IsSomeOf is_name_byte

-- the reserved words (3.7.2 and annex B)
abbrev pub reserved : List (List ℕ)
reserved =
    codes "always" ∷ codes "and" ∷ codes "assign" ∷ codes "automatic" ∷ codes "begin" ∷ codes "buf" ∷
    codes "bufif0" ∷ codes "bufif1" ∷ codes "case" ∷ codes "casex" ∷ codes "casez" ∷ codes "cell" ∷
    codes "cmos" ∷ codes "config" ∷ codes "deassign" ∷ codes "default" ∷ codes "defparam" ∷
    codes "design" ∷ codes "disable" ∷ codes "edge" ∷ codes "else" ∷ codes "end" ∷ codes "endcase" ∷
    codes "endconfig" ∷ codes "endfunction" ∷ codes "endgenerate" ∷ codes "endmodule" ∷
    codes "endprimitive" ∷ codes "endspecify" ∷ codes "endtable" ∷ codes "endtask" ∷ codes "event" ∷
    codes "for" ∷ codes "force" ∷ codes "forever" ∷ codes "fork" ∷ codes "function" ∷
    codes "generate" ∷ codes "genvar" ∷ codes "highz0" ∷ codes "highz1" ∷ codes "if" ∷
    codes "ifnone" ∷ codes "incdir" ∷ codes "include" ∷ codes "initial" ∷ codes "inout" ∷
    codes "input" ∷ codes "instance" ∷ codes "integer" ∷ codes "join" ∷ codes "large" ∷
    codes "liblist" ∷ codes "library" ∷ codes "localparam" ∷ codes "macromodule" ∷ codes "medium" ∷
    codes "module" ∷ codes "nand" ∷ codes "negedge" ∷ codes "nmos" ∷ codes "nor" ∷
    codes "noshowcancelled" ∷ codes "not" ∷ codes "notif0" ∷ codes "notif1" ∷ codes "or" ∷
    codes "output" ∷ codes "parameter" ∷ codes "pmos" ∷ codes "posedge" ∷ codes "primitive" ∷
    codes "pull0" ∷ codes "pull1" ∷ codes "pulldown" ∷ codes "pullup" ∷ codes "pulsestyle_onevent" ∷
    codes "pulsestyle_ondetect" ∷ codes "rcmos" ∷ codes "real" ∷ codes "realtime" ∷ codes "reg" ∷
    codes "release" ∷ codes "repeat" ∷ codes "rnmos" ∷ codes "rpmos" ∷ codes "rtran" ∷
    codes "rtranif0" ∷ codes "rtranif1" ∷ codes "scalared" ∷ codes "showcancelled" ∷ codes "signed" ∷
    codes "small" ∷ codes "specify" ∷ codes "specparam" ∷ codes "strong0" ∷ codes "strong1" ∷
    codes "supply0" ∷ codes "supply1" ∷ codes "table" ∷ codes "task" ∷ codes "time" ∷ codes "tran" ∷
    codes "tranif0" ∷ codes "tranif1" ∷ codes "tri" ∷ codes "tri0" ∷ codes "tri1" ∷ codes "triand" ∷
    codes "trior" ∷ codes "trireg" ∷ codes "unsigned" ∷ codes "use" ∷ codes "uwire" ∷
    codes "vectored" ∷ codes "wait" ∷ codes "wand" ∷ codes "weak0" ∷ codes "weak1" ∷ codes "while" ∷
    codes "wire" ∷ codes "wor" ∷ codes "xnor" ∷ codes "xor" ∷ []

-- the name is a reserved word
unfoldable pub is_reserved : List ℕ → Bool
is_reserved word = list_any (bytes_eq word) reserved
