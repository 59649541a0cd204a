-- `uses` meets its contract. Assumes nothing.
use mathlib.Core.Path.{refl}
use Rattle.profile.specs.Profile.{uses}
use Rattle.profile.proofs.features.ComparedRow.uses.Goals as goal

pub returns-in-LongLong : goal.returns-in-LongLong
unfolding uses
returns-in-LongLong c = rw c.in-LongLong.is c.has_adjacent_identifiers.ensures

pub returns-in-Atomic : goal.returns-in-Atomic
unfolding uses
returns-in-Atomic c = rw c.in-Atomic.is c.has_identifier_call.ensures

pub returns-in-BitInt : goal.returns-in-BitInt
unfolding uses
returns-in-BitInt c = rw c.in-BitInt.is c.has_identifier_call-in-BitInt.ensures

pub returns-in-Typeof : goal.returns-in-Typeof
unfolding uses
returns-in-Typeof c = rw c.in-Typeof.is c.has_identifier_call-in-Typeof.ensures

pub returns-in-TypeofUnqual : goal.returns-in-TypeofUnqual
unfolding uses
returns-in-TypeofUnqual c = rw c.in-TypeofUnqual.is c.has_identifier_call-in-TypeofUnqual.ensures

pub returns-in-Decltype : goal.returns-in-Decltype
unfolding uses
returns-in-Decltype c = rw c.in-Decltype.is c.has_identifier_call-in-Decltype.ensures

pub returns-in-RvalueReference : goal.returns-in-RvalueReference
unfolding uses
returns-in-RvalueReference c = rw c.in-RvalueReference.is c.has_kind.ensures

pub returns-in-Selector : goal.returns-in-Selector
unfolding uses
returns-in-Selector c = rw c.in-Selector.is c.has_kind-in-Selector.ensures

pub returns-in-DerivedType : goal.returns-in-DerivedType
unfolding uses
returns-in-DerivedType c = rw c.in-DerivedType.is c.has_identifier_call-in-DerivedType.ensures

pub returns-in-Class : goal.returns-in-Class
unfolding uses
returns-in-Class c = rw c.in-Class.is c.has_identifier_call-in-Class.ensures

pub returns-in-AssumedTypeOrRank : goal.returns-in-AssumedTypeOrRank
unfolding uses
returns-in-AssumedTypeOrRank c = rw (c.in-AssumedTypeOrRank.is, c.has_identifier_followed_by_star.ensures, c.has_assumed_rank.ensures) refl
