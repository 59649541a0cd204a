-- `refusal_of` meets its contract: at each case the table computes. Assumes nothing.
use Rattle.rows.proofs.answer.refusal_of.Goals as goal

pub returns-in-FileTooLong : goal.returns-in-FileTooLong
returns-in-FileTooLong c = rw c.in-FileTooLong.is c.plain.ensures

pub returns-in-InvalidHead : goal.returns-in-InvalidHead
returns-in-InvalidHead c = rw c.in-InvalidHead.is c.plain-in-InvalidHead.ensures

pub returns-in-UnknownProfile : goal.returns-in-UnknownProfile
returns-in-UnknownProfile c = rw c.in-UnknownProfile.is c.plain-in-UnknownProfile.ensures

pub returns-in-InvalidRecord : goal.returns-in-InvalidRecord
returns-in-InvalidRecord c = rw c.in-InvalidRecord.is c.detailed.ensures

pub returns-in-TooManyRecords : goal.returns-in-TooManyRecords
returns-in-TooManyRecords c = rw c.in-TooManyRecords.is c.plain-in-TooManyRecords.ensures

pub returns-in-ShortBuffer : goal.returns-in-ShortBuffer
returns-in-ShortBuffer c = rw c.in-ShortBuffer.is c.plain-in-ShortBuffer.ensures

pub returns-in-OffsetOver32Bits : goal.returns-in-OffsetOver32Bits
returns-in-OffsetOver32Bits c = rw c.in-OffsetOver32Bits.is c.plain-in-OffsetOver32Bits.ensures

pub returns-in-InvalidNameList : goal.returns-in-InvalidNameList
returns-in-InvalidNameList c = rw c.in-InvalidNameList.is c.plain-in-InvalidNameList.ensures

pub returns-in-Empty : goal.returns-in-Empty
returns-in-Empty c = rw c.in-Empty.is c.plain-in-Empty.ensures

pub returns-in-UnexpectedClosingDelimiter : goal.returns-in-UnexpectedClosingDelimiter
returns-in-UnexpectedClosingDelimiter c = rw c.in-UnexpectedClosingDelimiter.is (rw c.open_detail.ensures at c.detailed-in-UnexpectedClosingDelimiter.ensures)

pub returns-in-UnexpectedAngle : goal.returns-in-UnexpectedAngle
returns-in-UnexpectedAngle c = rw c.in-UnexpectedAngle.is c.at.ensures

pub returns-in-TopLevelComma : goal.returns-in-TopLevelComma
returns-in-TopLevelComma c = rw c.in-TopLevelComma.is c.at-in-TopLevelComma.ensures

pub returns-in-UnexpectedEndToken : goal.returns-in-UnexpectedEndToken
returns-in-UnexpectedEndToken c = rw c.in-UnexpectedEndToken.is c.at-in-UnexpectedEndToken.ensures

pub returns-in-UnclosedDelimiter : goal.returns-in-UnclosedDelimiter
returns-in-UnclosedDelimiter c = rw c.in-UnclosedDelimiter.is c.at-in-UnclosedDelimiter.ensures

pub returns-in-UnclosedAngle : goal.returns-in-UnclosedAngle
returns-in-UnclosedAngle c = rw c.in-UnclosedAngle.is c.at-in-UnclosedAngle.ensures

pub returns-in-MissingTypeWord : goal.returns-in-MissingTypeWord
returns-in-MissingTypeWord c = rw c.in-MissingTypeWord.is c.plain-in-MissingTypeWord.ensures

pub returns-in-InvalidBoundaryToken : goal.returns-in-InvalidBoundaryToken
returns-in-InvalidBoundaryToken c = rw c.in-InvalidBoundaryToken.is c.plain-in-InvalidBoundaryToken.ensures

pub returns-in-NestingLimitExceeded : goal.returns-in-NestingLimitExceeded
returns-in-NestingLimitExceeded c = rw c.in-NestingLimitExceeded.is c.plain-in-NestingLimitExceeded.ensures

pub returns-in-UnterminatedGroup : goal.returns-in-UnterminatedGroup
returns-in-UnterminatedGroup c = rw c.in-UnterminatedGroup.is c.plain-in-UnterminatedGroup.ensures

pub returns-in-MismatchedClosingDelimiter : goal.returns-in-MismatchedClosingDelimiter
returns-in-MismatchedClosingDelimiter c = rw c.in-MismatchedClosingDelimiter.is c.plain-in-MismatchedClosingDelimiter.ensures

pub returns-in-UnexpectedTokenAfterTypeName : goal.returns-in-UnexpectedTokenAfterTypeName
returns-in-UnexpectedTokenAfterTypeName c = rw c.in-UnexpectedTokenAfterTypeName.is c.plain-in-UnexpectedTokenAfterTypeName.ensures

pub returns-in-AllowancePassed : goal.returns-in-AllowancePassed
returns-in-AllowancePassed c = rw c.in-AllowancePassed.is c.plain-in-AllowancePassed.ensures

pub returns-in-ShiftWithoutList : goal.returns-in-ShiftWithoutList
returns-in-ShiftWithoutList c = rw c.in-ShiftWithoutList.is c.plain-in-ShiftWithoutList.ensures

pub returns-in-EmptyOrUnclosedList : goal.returns-in-EmptyOrUnclosedList
returns-in-EmptyOrUnclosedList c = rw c.in-EmptyOrUnclosedList.is c.plain-in-EmptyOrUnclosedList.ensures

pub returns-in-NoTypeName : goal.returns-in-NoTypeName
returns-in-NoTypeName c = rw c.in-NoTypeName.is c.plain-in-NoTypeName.ensures

pub returns-in-NotAvailableInProfile : goal.returns-in-NotAvailableInProfile
returns-in-NotAvailableInProfile c = rw c.in-NotAvailableInProfile.is (rw c.feature_detail.ensures at c.detailed-in-NotAvailableInProfile.ensures)

pub returns-in-InvalidRuleTable : goal.returns-in-InvalidRuleTable
returns-in-InvalidRuleTable c = rw c.in-InvalidRuleTable.is c.plain-in-InvalidRuleTable.ensures

pub returns-in-NoRuleMatches : goal.returns-in-NoRuleMatches
returns-in-NoRuleMatches c = rw c.in-NoRuleMatches.is c.plain-in-NoRuleMatches.ensures
