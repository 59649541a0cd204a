-- The number, token and detail of each refusal: document 01, "Answer record".
-- Assumes nothing.
use Rattle.std.specs.Prelude.{ℕ, Option, Some, None}
use Rattle.rows.specs.declared.answer.Delimiter.{Delimiter}
use Rattle.rows.specs.declared.answer.Delimiter.TheVariants.{Parenthesis, Bracket}
use Rattle.rows.specs.declared.answer.Feature.{Feature}
use Rattle.rows.specs.declared.answer.Feature.TheVariants.{LongLong, Atomic, BitInt, Typeof, TypeofUnqual, Decltype, RvalueReference, Selector, DerivedType, Class, AssumedTypeOrRank}
use Rattle.rows.specs.declared.answer.Refusal.{Refusal}
use Rattle.rows.specs.declared.answer.TypeNameError.{TypeNameError}
use Rattle.rows.specs.declared.answer.TypeNameError.TheVariants.{FileTooLong, InvalidHead, UnknownProfile, InvalidRecord, TooManyRecords, ShortBuffer, OffsetOver32Bits, Empty, UnexpectedClosingDelimiter, UnexpectedAngle, TopLevelComma, UnexpectedEndToken, UnclosedDelimiter, UnclosedAngle, MissingTypeWord, InvalidBoundaryToken, NestingLimitExceeded, UnterminatedGroup, MismatchedClosingDelimiter, UnexpectedTokenAfterTypeName, AllowancePassed, NoTypeName, NotAvailableInProfile, InvalidRuleTable, NoRuleMatches, InvalidNameList, ShiftWithoutList, EmptyOrUnclosedList}

-- "Token (65,535 if none)".
abbrev pub no_token : ℕ
no_token = 65535

-- Refusal 11's detail: "0 none, 1 `(` or 2 `[` was open".
abbrev pub open_detail : Option Delimiter → ℕ
open_detail None = 0
open_detail (Some Parenthesis) = 1
open_detail (Some Bracket) = 2

-- Refusal 40's detail: the list behind "feature".
abbrev pub feature_detail : Feature → ℕ
feature_detail LongLong = 1
feature_detail Atomic = 2
feature_detail BitInt = 3
feature_detail Typeof = 4
feature_detail TypeofUnqual = 5
feature_detail Decltype = 6
feature_detail RvalueReference = 7
feature_detail Selector = 8
feature_detail DerivedType = 9
feature_detail Class = 10
feature_detail AssumedTypeOrRank = 11

-- A refusal's three numbers.
abbrev pub named : (number token detail : ℕ) → Refusal
named n t d = record { number = n; token = t; detail = d }

-- A refusal that names no token and has no detail.
abbrev pub plainly : (number : ℕ) → Refusal
plainly n = named n no_token 0

-- The table of refusals. "Tokens are named for 11 to 16. A detail not given above is 0."
abbrev pub refusal_of : TypeNameError → Refusal
refusal_of FileTooLong = plainly 1
refusal_of InvalidHead = plainly 2
refusal_of UnknownProfile = plainly 3
refusal_of (InvalidRecord offset) = named 4 no_token offset
refusal_of TooManyRecords = plainly 5
refusal_of ShortBuffer = plainly 6
refusal_of Empty = plainly 10
refusal_of (UnexpectedClosingDelimiter expected actual token) = named 11 token (open_detail expected)
refusal_of (UnexpectedAngle token) = named 12 token 0
refusal_of (TopLevelComma token) = named 13 token 0
refusal_of (UnexpectedEndToken token) = named 14 token 0
refusal_of (UnclosedDelimiter delimiter token) = named 15 token 0
refusal_of (UnclosedAngle token) = named 16 token 0
refusal_of MissingTypeWord = plainly 17
refusal_of InvalidBoundaryToken = plainly 18
refusal_of NestingLimitExceeded = plainly 20
refusal_of UnterminatedGroup = plainly 21
refusal_of MismatchedClosingDelimiter = plainly 22
refusal_of UnexpectedTokenAfterTypeName = plainly 23
refusal_of AllowancePassed = plainly 25
refusal_of NoTypeName = plainly 30
refusal_of (NotAvailableInProfile feature) = named 40 no_token (feature_detail feature)
-- Document 02, C-14: "New numbers: 7 offset over 32 bits".
refusal_of OffsetOver32Bits = plainly 7
-- C-11: "New numbers: 50 rule table not of this form or of over 256 rules ..; 51 no rule matches".
refusal_of InvalidRuleTable = plainly 50
refusal_of NoRuleMatches = plainly 51
-- C-17: "New numbers: 8 name list malformed or language not C++ ..; 26 second half of a `>>` without a list at that depth, in reading; 27 list empty,
-- with an empty argument or not closed, in reading".
refusal_of InvalidNameList = plainly 8
refusal_of ShiftWithoutList = plainly 26
refusal_of EmptyOrUnclosedList = plainly 27
