-- Token kinds by name: document 01, "Token record": the place of each in `TokenKind`, Identifier 0 to End 57.
-- Assumes nothing.
use Rattle.std.specs.Prelude.{ℕ}

-- `TokenKind::Identifier`: a word; "Kind 0 adds a word".
abbrev pub Identifier : ℕ
Identifier = 0

-- `TokenKind::ReservedKeyword`
abbrev pub ReservedKeyword : ℕ
ReservedKeyword = 1

-- `TokenKind::Integer`: an integer literal.
abbrev pub Integer : ℕ
Integer = 2

-- `TokenKind::Real`: a real literal.
abbrev pub Real : ℕ
Real = 3

-- `TokenKind::Character`: a character literal.
abbrev pub Character : ℕ
Character = 4

-- `TokenKind::String`: a string literal.
abbrev pub String : ℕ
String = 5

-- `true`, `false`, `.true.`, `.false.`
abbrev pub Boolean : ℕ
Boolean = 6

-- `nullptr`
abbrev pub NullPointer : ℕ
NullPointer = 7

-- `(`
abbrev pub LeftParen : ℕ
LeftParen = 8

-- `)`
abbrev pub RightParen : ℕ
RightParen = 9

-- `[`
abbrev pub LeftBracket : ℕ
LeftBracket = 10

-- `]`
abbrev pub RightBracket : ℕ
RightBracket = 11

-- `,`
abbrev pub Comma : ℕ
Comma = 12

-- `?`
abbrev pub Question : ℕ
Question = 13

-- `:`
abbrev pub Colon : ℕ
Colon = 14

-- `::`
abbrev pub Scope : ℕ
Scope = 15

-- `.`
abbrev pub Dot : ℕ
Dot = 16

-- `% of Fortran`
abbrev pub Percent : ℕ
Percent = 17

-- `->`
abbrev pub Arrow : ℕ
Arrow = 18

-- `+`
abbrev pub Plus : ℕ
Plus = 19

-- `-`
abbrev pub Minus : ℕ
Minus = 20

-- `*`
abbrev pub Star : ℕ
Star = 21

-- `/`
abbrev pub Slash : ℕ
Slash = 22

-- `**`
abbrev pub Power : ℕ
Power = 23

-- `//`
abbrev pub Concat : ℕ
Concat = 24

-- `% of C and C++`
abbrev pub Remainder : ℕ
Remainder = 25

-- `!` of C and C++, `.not.`
abbrev pub LogicalNot : ℕ
LogicalNot = 26

-- `~`
abbrev pub BitwiseNot : ℕ
BitwiseNot = 27

-- `&`
abbrev pub Ampersand : ℕ
Ampersand = 28

-- `|`
abbrev pub Pipe : ℕ
Pipe = 29

-- `^`
abbrev pub Caret : ℕ
Caret = 30

-- `&&`
abbrev pub LogicalAnd : ℕ
LogicalAnd = 31

-- `||`
abbrev pub LogicalOr : ℕ
LogicalOr = 32

-- `.eqv.`
abbrev pub LogicalEqv : ℕ
LogicalEqv = 33

-- `.neqv.`
abbrev pub LogicalNeqv : ℕ
LogicalNeqv = 34

-- `.name.` of Fortran.
abbrev pub FortranDefinedOperator : ℕ
FortranDefinedOperator = 35

-- `=`
abbrev pub Equal : ℕ
Equal = 36

-- `==`
abbrev pub EqualEqual : ℕ
EqualEqual = 37

-- `!=`
abbrev pub NotEqual : ℕ
NotEqual = 38

-- `<`
abbrev pub Less : ℕ
Less = 39

-- `<=`
abbrev pub LessEqual : ℕ
LessEqual = 40

-- `>`
abbrev pub Greater : ℕ
Greater = 41

-- `>=`
abbrev pub GreaterEqual : ℕ
GreaterEqual = 42

-- `<<`
abbrev pub ShiftLeft : ℕ
ShiftLeft = 43

-- `>>`
abbrev pub ShiftRight : ℕ
ShiftRight = 44

-- `++`
abbrev pub PlusPlus : ℕ
PlusPlus = 45

-- `--`
abbrev pub MinusMinus : ℕ
MinusMinus = 46

-- `+=`
abbrev pub PlusEqual : ℕ
PlusEqual = 47

-- `-=`
abbrev pub MinusEqual : ℕ
MinusEqual = 48

-- `*=`
abbrev pub StarEqual : ℕ
StarEqual = 49

-- `/=` of C and C++
abbrev pub SlashEqual : ℕ
SlashEqual = 50

-- `%=`
abbrev pub RemainderEqual : ℕ
RemainderEqual = 51

-- `&=`
abbrev pub AmpersandEqual : ℕ
AmpersandEqual = 52

-- `|=`
abbrev pub PipeEqual : ℕ
PipeEqual = 53

-- `^=`
abbrev pub CaretEqual : ℕ
CaretEqual = 54

-- `<<=`
abbrev pub ShiftLeftEqual : ℕ
ShiftLeftEqual = 55

-- `>>=`
abbrev pub ShiftRightEqual : ℕ
ShiftRightEqual = 56

-- `TokenKind::End`: "14 kind 57".
abbrev pub End : ℕ
End = 57

-- Stands for the kind where there is no token, past the row's end or before its first token: `None` of `tokens.get`.
abbrev pub NoToken : ℕ
NoToken = 58
