-- How keywords and marks are spelled, and what a run of digits stands for.
use Rattle.std.specs.Prelude.{ℕ, ◌+◌, ◌-◌, ◌*◌, ◌==◌, ◌&&◌, ◌||◌, nat_lt, List, length, slice_index, Option, Some, None, ℤ, pos, codes, if◌then◌else◌}
use Rattle.std.specs.List.{fold}
use Rattle.bc_data.specs.declared.token.Word.{Word}
use Rattle.bc_data.specs.declared.token.Word.TheVariants as word
use Rattle.bc_data.specs.declared.token.Sign.{Sign}
use Rattle.bc_data.specs.declared.token.Sign.TheVariants as sign

abbrev pub word_text : Word → List ℕ
word_text word.Add = codes "add"
word_text word.And = codes "and"
word_text word.Assert = codes "assert"
word_text word.Bool = codes "bool"
word_text word.Class = codes "class"
word_text word.Clear = codes "clear"
word_text word.Else = codes "else"
word_text word.False = codes "false"
word_text word.Flag = codes "flag"
word_text word.If = codes "if"
word_text word.In = codes "in"
word_text word.Int = codes "int"
word_text word.Length = codes "length"
word_text word.New = codes "new"
word_text word.Null = codes "null"
word_text word.Or = codes "or"
word_text word.Print = codes "print"
word_text word.Return = codes "return"
word_text word.Tag = codes "tag"
word_text word.TagType = codes "tagtype"
word_text word.Task = codes "task"
word_text word.TaskExit = codes "taskexit"
word_text word.This = codes "this"
word_text word.True = codes "true"
word_text word.Void = codes "void"
word_text word.While = codes "while"
word_text word.With = codes "with"

abbrev pub sign_text : Sign → List ℕ
sign_text sign.OpenBrace = codes "{"
sign_text sign.CloseBrace = codes "}"
sign_text sign.OpenParen = codes "("
sign_text sign.CloseParen = codes ")"
sign_text sign.OpenBracket = codes "["
sign_text sign.CloseBracket = codes "]"
sign_text sign.Semicolon = codes ";"
sign_text sign.Comma = codes ","
sign_text sign.Dot = codes "."
sign_text sign.Colon = codes ":"
sign_text sign.Becomes = codes ":="
sign_text sign.Equals = codes "="
sign_text sign.Same = codes "=="
sign_text sign.Bang = codes "!"
sign_text sign.Differ = codes "!="
sign_text sign.Less = codes "<"
sign_text sign.LessEq = codes "<="
sign_text sign.More = codes ">"
sign_text sign.MoreEq = codes ">="
sign_text sign.Plus = codes "+"
sign_text sign.Minus = codes "-"
sign_text sign.Star = codes "*"
sign_text sign.Slash = codes "/"
sign_text sign.Percent = codes "%"
sign_text sign.Both = codes "&&"
sign_text sign.Either = codes "||"

-- the value of decimal digits
abbrev pub digits_value : List ℕ → ℕ
digits_value digits = fold (λ value digit. 10 * value + (digit - 48)) 0 digits

-- A number is 0, or digits that don't begin with 0, at most 2147483647.
unfoldable pub number_of : List ℕ → Option ℤ
number_of digits = if (slice_index digits 0 == 48 && nat_lt 1 (length digits)) || nat_lt 2147483647 (digits_value digits) then None else Some (pos (digits_value digits))
