-- Languages and standards by number: document 01, "Head record": in the order in which `CStandard`, `CppStandard` and `FortranStandard` declare them.
-- Assumes nothing.
use Rattle.std.specs.Prelude.{ℕ}

-- "0 C"
abbrev pub C : ℕ
C = 0

-- "1 C++"
abbrev pub Cpp : ℕ
Cpp = 1

-- "2 Fortran"
abbrev pub Fortran : ℕ
Fortran = 2

-- `CStandard::C89`
abbrev pub C89 : ℕ
C89 = 0

-- `CStandard::C99`
abbrev pub C99 : ℕ
C99 = 1

-- `CStandard::C11`
abbrev pub C11 : ℕ
C11 = 2

-- `CStandard::C18`
abbrev pub C18 : ℕ
C18 = 3

-- `CStandard::C23`
abbrev pub C23 : ℕ
C23 = 4

-- `CppStandard::Cpp98`
abbrev pub Cpp98 : ℕ
Cpp98 = 0

-- `CppStandard::Cpp11`
abbrev pub Cpp11 : ℕ
Cpp11 = 1

-- `CppStandard::Cpp14`
abbrev pub Cpp14 : ℕ
Cpp14 = 2

-- `CppStandard::Cpp17`
abbrev pub Cpp17 : ℕ
Cpp17 = 3

-- `CppStandard::Cpp20`
abbrev pub Cpp20 : ℕ
Cpp20 = 4

-- `CppStandard::Cpp23`
abbrev pub Cpp23 : ℕ
Cpp23 = 5

-- `FortranStandard::Fortran77`
abbrev pub Fortran77 : ℕ
Fortran77 = 0

-- `FortranStandard::Fortran90`
abbrev pub Fortran90 : ℕ
Fortran90 = 1

-- `FortranStandard::Fortran95`
abbrev pub Fortran95 : ℕ
Fortran95 = 2

-- `FortranStandard::Fortran2003`
abbrev pub Fortran2003 : ℕ
Fortran2003 = 3

-- `FortranStandard::Fortran2008`
abbrev pub Fortran2008 : ℕ
Fortran2008 = 4

-- `FortranStandard::Fortran2018`
abbrev pub Fortran2018 : ℕ
Fortran2018 = 5

-- `FortranStandard::Fortran2023`
abbrev pub Fortran2023 : ℕ
Fortran2023 = 6
