-- What contracts see of the script's own setting.
use Rattle.wb_heap_model.specs.Rules as rules
use Rattle.wb_debug.specs.declared.setting.Setting.{Setting}
use Rattle.wb_debug.specs.declared.setting.Setting.TheVariants.{Never, Next, Each}

abbrev pub setting_of : Setting → rules.Setting
setting_of Never = rules.never
setting_of (Next left) = rules.next left
setting_of (Each rate left) = rules.each rate left
