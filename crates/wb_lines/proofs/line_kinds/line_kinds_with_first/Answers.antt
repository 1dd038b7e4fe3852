use Rattle.std.proofs.Common.{◌≡◌, false, nat_eq, refl, sym, arith}
use Rattle.std.specs.List.{list_any}
use Rattle.std.proofs.lemmas.Bool.Decides.{nat_tests}
use Rattle.wb_language.specs.LineKinds.{line_kinds}
use Rattle.wb_lines.specs.FirstBytes.{line_kinds_with_first}
use Rattle.wb_lines.proofs.FirstBytes.{firsts, no_line_kinds}
use Rattle.wb_lines.proofs.line_kinds.line_kinds_with_first.Goals as goal

pub returns-in-97 : goal.returns-in-97
unfolding line_kinds_with_first line_kinds
returns-in-97 c = rw c.in-97.is refl

pub returns-in-98 : goal.returns-in-98
unfolding line_kinds_with_first line_kinds
returns-in-98 c = rw c.in-98.is refl

pub returns-in-99 : goal.returns-in-99
unfolding line_kinds_with_first line_kinds
returns-in-99 c = rw c.in-99.is refl

pub returns-in-100 : goal.returns-in-100
unfolding line_kinds_with_first line_kinds
returns-in-100 c = rw c.in-100.is refl

pub returns-in-101 : goal.returns-in-101
unfolding line_kinds_with_first line_kinds
returns-in-101 c = rw c.in-101.is refl

pub returns-in-102 : goal.returns-in-102
unfolding line_kinds_with_first line_kinds
returns-in-102 c = rw c.in-102.is refl

pub returns-in-103 : goal.returns-in-103
unfolding line_kinds_with_first line_kinds
returns-in-103 c = rw c.in-103.is refl

pub returns-in-104 : goal.returns-in-104
unfolding line_kinds_with_first line_kinds
returns-in-104 c = rw c.in-104.is refl

pub returns-in-105 : goal.returns-in-105
unfolding line_kinds_with_first line_kinds
returns-in-105 c = rw c.in-105.is refl

pub returns-in-108 : goal.returns-in-108
unfolding line_kinds_with_first line_kinds
returns-in-108 c = rw c.in-108.is refl

pub returns-in-109 : goal.returns-in-109
unfolding line_kinds_with_first line_kinds
returns-in-109 c = rw c.in-109.is refl

pub returns-in-110 : goal.returns-in-110
unfolding line_kinds_with_first line_kinds
returns-in-110 c = rw c.in-110.is refl

pub returns-in-111 : goal.returns-in-111
unfolding line_kinds_with_first line_kinds
returns-in-111 c = rw c.in-111.is refl

pub returns-in-112 : goal.returns-in-112
unfolding line_kinds_with_first line_kinds
returns-in-112 c = rw c.in-112.is refl

pub returns-in-114 : goal.returns-in-114
unfolding line_kinds_with_first line_kinds
returns-in-114 c = rw c.in-114.is refl

pub returns-in-115 : goal.returns-in-115
unfolding line_kinds_with_first line_kinds
returns-in-115 c = rw c.in-115.is refl

pub returns-in-116 : goal.returns-in-116
unfolding line_kinds_with_first line_kinds
returns-in-116 c = rw c.in-116.is refl

pub returns-in-118 : goal.returns-in-118
unfolding line_kinds_with_first line_kinds
returns-in-118 c = rw c.in-118.is refl

pub returns-in_default : goal.returns-in_default
returns-in_default c =
    let none : list_any (λ b. nat_eq c.args.byte b) firsts ≡ false = grind (arith, nat_tests) in
    sym (no_line_kinds c.args.byte none)
