-- Worked cases of `operations`, each by computing. Written by tools/cases_to_theorems.py; edit nothing here.
use Rattle.std.specs.Prelude.{◌≡◌, refl, pos, negsuc, [], ◌∷◌, Some, None}
use Rattle.wb_heap_model.specs.declared.heap.Rule.TheVariants as R
use Rattle.wb_heap_model.specs.declared.heap.Panic.TheVariants as P
use Rattle.wb_tree.specs.declared.script.Holder.TheVariants as H
use Rattle.wb_heap_model.specs.declared.heap.Answer.TheVariants.{Granted}
use Rattle.wb_heap_model.specs.declared.reported.Note.TheVariants.{Heap, Available, Compress}
use Rattle.wb_meaning.specs.declared.run.Why.TheVariants.{Budget}
use Rattle.wb_meaning.specs.declared.run.Outcome.TheVariants.{Ended, Panicked, Cut}
use Rattle.wb_tree.specs.declared.script.Script.{Script}
use Rattle.wb_tree.specs.declared.script.Parameter.TheVariants as Par
use Rattle.wb_tree.specs.declared.script.Local.TheVariants.{OfPointer, OfNumber}
use Rattle.wb_tree.specs.declared.script.Pointer.TheVariants.{Held}
use Rattle.wb_tree.specs.declared.script.Number.TheVariants.{Constant, Variable}
use Rattle.wb_tree.specs.declared.script.Readable.TheVariants.{Quoted}
use Rattle.wb_tree.specs.declared.script.Condition.TheVariants.{IsNull, Less}
use Rattle.wb_tree.specs.declared.script.Argument.TheVariants.{Given}
use Rattle.wb_tree.specs.declared.script.Refusal.TheVariants.{GivesNull, Leaves}
use Rattle.wb_tree.specs.declared.script.Statement.TheOpen.{Statement-F}
use Rattle.wb_meaning.specs.Run.{run}
use Rattle.wb_worked.specs.Shorthands.{everything, on, script, procedure, operation, body, result, shaped, line}

abbrev script_as_many_operations_as_may_be_run : Script
script_as_many_operations_as_may_be_run = script [] ((procedure 511 [] (body [] [])) ∷ []) ((operation 1 (body [] [])) ∷ (operation 3 (body
    [] [])) ∷ (operation 5 (body [] [])) ∷ (operation 7 (body [] [])) ∷ (operation 9 (body [] [])) ∷ (operation 11 (body [] [])) ∷
    (operation 13 (body [] [])) ∷ (operation 15 (body [] [])) ∷ (operation 17 (body [] [])) ∷ (operation 19 (body [] [])) ∷ (operation 21
    (body [] [])) ∷ (operation 23 (body [] [])) ∷ (operation 25 (body [] [])) ∷ (operation 27 (body [] [])) ∷ (operation 29 (body [] [])) ∷
    (operation 31 (body [] [])) ∷ (operation 33 (body [] [])) ∷ (operation 35 (body [] [])) ∷ (operation 37 (body [] [])) ∷ (operation 39
    (body [] [])) ∷ (operation 41 (body [] [])) ∷ (operation 43 (body [] [])) ∷ (operation 45 (body [] [])) ∷ (operation 47 (body [] [])) ∷
    (operation 49 (body [] [])) ∷ (operation 51 (body [] [])) ∷ (operation 53 (body [] [])) ∷ (operation 55 (body [] [])) ∷ (operation 57
    (body [] [])) ∷ (operation 59 (body [] [])) ∷ (operation 61 (body [] [])) ∷ (operation 63 (body [] [])) ∷ (operation 65 (body [] [])) ∷
    (operation 67 (body [] [])) ∷ (operation 69 (body [] [])) ∷ (operation 71 (body [] [])) ∷ (operation 73 (body [] [])) ∷ (operation 75
    (body [] [])) ∷ (operation 77 (body [] [])) ∷ (operation 79 (body [] [])) ∷ (operation 81 (body [] [])) ∷ (operation 83 (body [] [])) ∷
    (operation 85 (body [] [])) ∷ (operation 87 (body [] [])) ∷ (operation 89 (body [] [])) ∷ (operation 91 (body [] [])) ∷ (operation 93
    (body [] [])) ∷ (operation 95 (body [] [])) ∷ (operation 97 (body [] [])) ∷ (operation 99 (body [] [])) ∷ (operation 101 (body [] [])) ∷
    (operation 103 (body [] [])) ∷ (operation 105 (body [] [])) ∷ (operation 107 (body [] [])) ∷ (operation 109 (body [] [])) ∷ (operation
    111 (body [] [])) ∷ (operation 113 (body [] [])) ∷ (operation 115 (body [] [])) ∷ (operation 117 (body [] [])) ∷ (operation 119 (body []
    [])) ∷ (operation 121 (body [] [])) ∷ (operation 123 (body [] [])) ∷ (operation 125 (body [] [])) ∷ (operation 127 (body [] [])) ∷
    (operation 129 (body [] [])) ∷ (operation 131 (body [] [])) ∷ (operation 133 (body [] [])) ∷ (operation 135 (body [] [])) ∷ (operation
    137 (body [] [])) ∷ (operation 139 (body [] [])) ∷ (operation 141 (body [] [])) ∷ (operation 143 (body [] [])) ∷ (operation 145 (body []
    [])) ∷ (operation 147 (body [] [])) ∷ (operation 149 (body [] [])) ∷ (operation 151 (body [] [])) ∷ (operation 153 (body [] [])) ∷
    (operation 155 (body [] [])) ∷ (operation 157 (body [] [])) ∷ (operation 159 (body [] [])) ∷ (operation 161 (body [] [])) ∷ (operation
    163 (body [] [])) ∷ (operation 165 (body [] [])) ∷ (operation 167 (body [] [])) ∷ (operation 169 (body [] [])) ∷ (operation 171 (body []
    [])) ∷ (operation 173 (body [] [])) ∷ (operation 175 (body [] [])) ∷ (operation 177 (body [] [])) ∷ (operation 179 (body [] [])) ∷
    (operation 181 (body [] [])) ∷ (operation 183 (body [] [])) ∷ (operation 185 (body [] [])) ∷ (operation 187 (body [] [])) ∷ (operation
    189 (body [] [])) ∷ (operation 191 (body [] [])) ∷ (operation 193 (body [] [])) ∷ (operation 195 (body [] [])) ∷ (operation 197 (body []
    [])) ∷ (operation 199 (body [] [])) ∷ (operation 201 (body [] [])) ∷ (operation 203 (body [] [])) ∷ (operation 205 (body [] [])) ∷
    (operation 207 (body [] [])) ∷ (operation 209 (body [] [])) ∷ (operation 211 (body [] [])) ∷ (operation 213 (body [] [])) ∷ (operation
    215 (body [] [])) ∷ (operation 217 (body [] [])) ∷ (operation 219 (body [] [])) ∷ (operation 221 (body [] [])) ∷ (operation 223 (body []
    [])) ∷ (operation 225 (body [] [])) ∷ (operation 227 (body [] [])) ∷ (operation 229 (body [] [])) ∷ (operation 231 (body [] [])) ∷
    (operation 233 (body [] [])) ∷ (operation 235 (body [] [])) ∷ (operation 237 (body [] [])) ∷ (operation 239 (body [] [])) ∷ (operation
    241 (body [] [])) ∷ (operation 243 (body [] [])) ∷ (operation 245 (body [] [])) ∷ (operation 247 (body [] [])) ∷ (operation 249 (body []
    [])) ∷ (operation 251 (body [] [])) ∷ (operation 253 (body [] [])) ∷ (operation 255 (body [] [])) ∷ (operation 257 (body [] [])) ∷
    (operation 259 (body [] [])) ∷ (operation 261 (body [] [])) ∷ (operation 263 (body [] [])) ∷ (operation 265 (body [] [])) ∷ (operation
    267 (body [] [])) ∷ (operation 269 (body [] [])) ∷ (operation 271 (body [] [])) ∷ (operation 273 (body [] [])) ∷ (operation 275 (body []
    [])) ∷ (operation 277 (body [] [])) ∷ (operation 279 (body [] [])) ∷ (operation 281 (body [] [])) ∷ (operation 283 (body [] [])) ∷
    (operation 285 (body [] [])) ∷ (operation 287 (body [] [])) ∷ (operation 289 (body [] [])) ∷ (operation 291 (body [] [])) ∷ (operation
    293 (body [] [])) ∷ (operation 295 (body [] [])) ∷ (operation 297 (body [] [])) ∷ (operation 299 (body [] [])) ∷ (operation 301 (body []
    [])) ∷ (operation 303 (body [] [])) ∷ (operation 305 (body [] [])) ∷ (operation 307 (body [] [])) ∷ (operation 309 (body [] [])) ∷
    (operation 311 (body [] [])) ∷ (operation 313 (body [] [])) ∷ (operation 315 (body [] [])) ∷ (operation 317 (body [] [])) ∷ (operation
    319 (body [] [])) ∷ (operation 321 (body [] [])) ∷ (operation 323 (body [] [])) ∷ (operation 325 (body [] [])) ∷ (operation 327 (body []
    [])) ∷ (operation 329 (body [] [])) ∷ (operation 331 (body [] [])) ∷ (operation 333 (body [] [])) ∷ (operation 335 (body [] [])) ∷
    (operation 337 (body [] [])) ∷ (operation 339 (body [] [])) ∷ (operation 341 (body [] [])) ∷ (operation 343 (body [] [])) ∷ (operation
    345 (body [] [])) ∷ (operation 347 (body [] [])) ∷ (operation 349 (body [] [])) ∷ (operation 351 (body [] [])) ∷ (operation 353 (body []
    [])) ∷ (operation 355 (body [] [])) ∷ (operation 357 (body [] [])) ∷ (operation 359 (body [] [])) ∷ (operation 361 (body [] [])) ∷
    (operation 363 (body [] [])) ∷ (operation 365 (body [] [])) ∷ (operation 367 (body [] [])) ∷ (operation 369 (body [] [])) ∷ (operation
    371 (body [] [])) ∷ (operation 373 (body [] [])) ∷ (operation 375 (body [] [])) ∷ (operation 377 (body [] [])) ∷ (operation 379 (body []
    [])) ∷ (operation 381 (body [] [])) ∷ (operation 383 (body [] [])) ∷ (operation 385 (body [] [])) ∷ (operation 387 (body [] [])) ∷
    (operation 389 (body [] [])) ∷ (operation 391 (body [] [])) ∷ (operation 393 (body [] [])) ∷ (operation 395 (body [] [])) ∷ (operation
    397 (body [] [])) ∷ (operation 399 (body [] [])) ∷ (operation 401 (body [] [])) ∷ (operation 403 (body [] [])) ∷ (operation 405 (body []
    [])) ∷ (operation 407 (body [] [])) ∷ (operation 409 (body [] [])) ∷ (operation 411 (body [] [])) ∷ (operation 413 (body [] [])) ∷
    (operation 415 (body [] [])) ∷ (operation 417 (body [] [])) ∷ (operation 419 (body [] [])) ∷ (operation 421 (body [] [])) ∷ (operation
    423 (body [] [])) ∷ (operation 425 (body [] [])) ∷ (operation 427 (body [] [])) ∷ (operation 429 (body [] [])) ∷ (operation 431 (body []
    [])) ∷ (operation 433 (body [] [])) ∷ (operation 435 (body [] [])) ∷ (operation 437 (body [] [])) ∷ (operation 439 (body [] [])) ∷
    (operation 441 (body [] [])) ∷ (operation 443 (body [] [])) ∷ (operation 445 (body [] [])) ∷ (operation 447 (body [] [])) ∷ (operation
    449 (body [] [])) ∷ (operation 451 (body [] [])) ∷ (operation 453 (body [] [])) ∷ (operation 455 (body [] [])) ∷ (operation 457 (body []
    [])) ∷ (operation 459 (body [] [])) ∷ (operation 461 (body [] [])) ∷ (operation 463 (body [] [])) ∷ (operation 465 (body [] [])) ∷
    (operation 467 (body [] [])) ∷ (operation 469 (body [] [])) ∷ (operation 471 (body [] [])) ∷ (operation 473 (body [] [])) ∷ (operation
    475 (body [] [])) ∷ (operation 477 (body [] [])) ∷ (operation 479 (body [] [])) ∷ (operation 481 (body [] [])) ∷ (operation 483 (body []
    [])) ∷ (operation 485 (body [] [])) ∷ (operation 487 (body [] [])) ∷ (operation 489 (body [] [])) ∷ (operation 491 (body [] [])) ∷
    (operation 493 (body [] [])) ∷ (operation 495 (body [] [])) ∷ (operation 497 (body [] [])) ∷ (operation 499 (body [] [])) ∷ (operation
    501 (body [] [])) ∷ (operation 503 (body [] [])) ∷ (operation 505 (body [] [])) ∷ (operation 507 (body [] [])) ∷ (operation 509 (body []
    [])) ∷ []) [] 0

as_many_operations_as_may_be_run : run script_as_many_operations_as_may_be_run R.Unlimited 10000 (shaped 4096 4096) ≡ result (Ended None [])
    ((line 1 144 0 Granted) ∷ []) [] [] 0
unfolding everything
as_many_operations_as_may_be_run = refl

abbrev script_items_of_all_kinds_on_a_leave_run : Script
script_items_of_all_kinds_on_a_leave_run = script [] ((procedure 5 [] (body ((OfPointer None) ∷ (OfPointer None) ∷ OfNumber ∷ []) ((on 9
    (Statement-F.Trap 2 ((on 10 (Statement-F.Alloc (Held (H.Local 0)) (Constant (pos 16)) GivesNull)) ∷ (on 11 (Statement-F.Push (Held
    (H.Local 0)))) ∷ (on 12 (Statement-F.Alloc (Held (H.Local 1)) (Constant (pos 16)) GivesNull)) ∷ (on 13 (Statement-F.PushOperation (Held
    (H.Local 1)) 0)) ∷ (on 14 (Statement-F.Leave (Constant (pos 3)))) ∷ []))) ∷ (on 16 (Statement-F.CheckAll (Constant (pos 0)))) ∷ (on 17
    (Statement-F.PrintNumber (Variable 2))) ∷ []))) ∷ []) ((operation 1 (body [] ((on 2 (Statement-F.PrintText (Quoted 0))) ∷ (on 3
    (Statement-F.Free (Held (H.Local 0)))) ∷ []))) ∷ []) ((116 ∷ 111 ∷ 108 ∷ 100 ∷ []) ∷ []) 0

items_of_all_kinds_on_a_leave_run : run script_items_of_all_kinds_on_a_leave_run R.Unlimited 10000 (shaped 4096 4096) ≡ result (Ended None
    []) ((line 1 144 0 Granted) ∷ (line 2 32 144 Granted) ∷ (line 3 32 176 Granted) ∷ []) ((116 ∷ 111 ∷ 108 ∷ 100 ∷ []) ∷ (51 ∷ []) ∷ []) []
    12
unfolding everything
items_of_all_kinds_on_a_leave_run = refl

abbrev script_leave_runs_a_cleanup_operation_run : Script
script_leave_runs_a_cleanup_operation_run = script [] ((procedure 5 [] (body ((OfPointer None) ∷ OfNumber ∷ []) ((on 8 (Statement-F.Alloc
    (Held (H.Local 0)) (Constant (pos 4)) Leaves)) ∷ (on 9 (Statement-F.PushOperation (Held (H.Local 0)) 0)) ∷ (on 10 (Statement-F.Trap 1
    ((on 11 (Statement-F.Leave (Constant (negsuc 6)))) ∷ []))) ∷ (on 13 (Statement-F.PrintNumber (Variable 1))) ∷ (on 14
    (Statement-F.LeaveIfError (Variable 1))) ∷ []))) ∷ []) ((operation 1 (body [] ((on 2 (Statement-F.PrintText (Quoted 0))) ∷ (on 3
    (Statement-F.Free (Held (H.Local 0)))) ∷ []))) ∷ []) ((111 ∷ 112 ∷ []) ∷ []) 0

leave_runs_a_cleanup_operation_run : run script_leave_runs_a_cleanup_operation_run R.Unlimited 10000 (shaped 4096 4096) ≡ result (Ended
    (Some (negsuc 6)) []) ((line 1 144 0 Granted) ∷ (line 2 32 144 Granted) ∷ []) ((45 ∷ 55 ∷ []) ∷ (111 ∷ 112 ∷ []) ∷ []) [] 9
unfolding everything
leave_runs_a_cleanup_operation_run = refl

abbrev script_newest_item_is_destroyed_first_run : Script
script_newest_item_is_destroyed_first_run = script [] ((procedure 9 [] (body ((OfPointer None) ∷ (OfPointer None) ∷ []) ((on 12
    (Statement-F.Alloc (Held (H.Local 0)) (Constant (pos 4)) GivesNull)) ∷ (on 13 (Statement-F.Alloc (Held (H.Local 1)) (Constant (pos 4))
    GivesNull)) ∷ (on 14 (Statement-F.PushOperation (Held (H.Local 0)) 0)) ∷ (on 15 (Statement-F.PushOperation (Held (H.Local 1)) 1)) ∷ (on
    16 (Statement-F.Leave (Constant (negsuc 0)))) ∷ []))) ∷ []) ((operation 1 (body [] ((on 2 (Statement-F.PrintText (Quoted 0))) ∷ (on 3
    (Statement-F.Free (Held (H.Local 0)))) ∷ []))) ∷ (operation 5 (body [] ((on 6 (Statement-F.PrintText (Quoted 1))) ∷ (on 7
    (Statement-F.Free (Held (H.Local 0)))) ∷ []))) ∷ []) ((49 ∷ []) ∷ (50 ∷ []) ∷ []) 0

newest_item_is_destroyed_first_run : run script_newest_item_is_destroyed_first_run R.Unlimited 10000 (shaped 4096 4096) ≡ result (Ended
    (Some (negsuc 0)) []) ((line 1 144 0 Granted) ∷ (line 2 32 144 Granted) ∷ (line 3 32 176 Granted) ∷ []) ((50 ∷ []) ∷ (49 ∷ []) ∷ []) []
    11
unfolding everything
newest_item_is_destroyed_first_run = refl

abbrev script_newest_operation_runs_first_run : Script
script_newest_operation_runs_first_run = script [] ((procedure 7 [] (body ((OfPointer None) ∷ OfNumber ∷ []) ((on 10 (Statement-F.Trap 1
    ((on 11 (Statement-F.PushOperation (Held (H.Local 0)) 0)) ∷ (on 12 (Statement-F.PushOperation (Held (H.Local 0)) 1)) ∷ (on 13
    (Statement-F.Leave (Constant (pos 7)))) ∷ []))) ∷ (on 15 (Statement-F.PrintNumber (Variable 1))) ∷ []))) ∷ []) ((operation 1 (body []
    ((on 2 (Statement-F.PrintText (Quoted 0))) ∷ []))) ∷ (operation 4 (body [] ((on 5 (Statement-F.PrintText (Quoted 1))) ∷ []))) ∷ [])
    ((102 ∷ 105 ∷ 114 ∷ 115 ∷ 116 ∷ []) ∷ (115 ∷ 101 ∷ 99 ∷ 111 ∷ 110 ∷ 100 ∷ []) ∷ []) 0

newest_operation_runs_first_run : run script_newest_operation_runs_first_run R.Unlimited 10000 (shaped 4096 4096) ≡ result (Ended None [])
    ((line 1 144 0 Granted) ∷ []) ((115 ∷ 101 ∷ 99 ∷ 111 ∷ 110 ∷ 100 ∷ []) ∷ (102 ∷ 105 ∷ 114 ∷ 115 ∷ 116 ∷ []) ∷ (55 ∷ []) ∷ []) [] 9
unfolding everything
newest_operation_runs_first_run = refl

abbrev script_operation_cut_at_the_budget_run : Script
script_operation_cut_at_the_budget_run = script [] ((procedure 6 [] (body ((OfPointer None) ∷ []) ((on 8 (Statement-F.PushOperation (Held
    (H.Local 0)) 0)) ∷ (on 9 (Statement-F.PopDestroy (Constant (pos 1)))) ∷ []))) ∷ []) ((operation 1 (body [] ((on 2 (Statement-F.If
    (IsNull (Held (H.Local 0))) ((on 3 (Statement-F.PrintText (Quoted 0))) ∷ []))) ∷ []))) ∷ []) ((110 ∷ 117 ∷ 108 ∷ 108 ∷ []) ∷ []) 0

operation_cut_at_the_budget_run : run script_operation_cut_at_the_budget_run R.Unlimited 4 (shaped 4096 4096) ≡ result (Cut Budget) ((line 1
    144 0 Granted) ∷ []) [] [] 4
unfolding everything
operation_cut_at_the_budget_run = refl

abbrev script_operation_frees_its_cell_run : Script
script_operation_frees_its_cell_run = script [] ((procedure 4 [] (body ((OfPointer None) ∷ []) ((on 6 (Statement-F.Alloc (Held (H.Local 0))
    (Constant (pos 16)) GivesNull)) ∷ (on 7 (Statement-F.PushOperation (Held (H.Local 0)) 0)) ∷ (on 8 (Statement-F.PopDestroy (Constant (pos
    1)))) ∷ (on 9 (Statement-F.CheckAll (Constant (pos 0)))) ∷ []))) ∷ []) ((operation 1 (body [] ((on 2 (Statement-F.Free (Held (H.Local
    0)))) ∷ []))) ∷ []) [] 0

operation_frees_its_cell_run : run script_operation_frees_its_cell_run R.Unlimited 10000 (shaped 4096 4096) ≡ result (Ended None []) ((line
    1 144 0 Granted) ∷ (line 2 32 144 Granted) ∷ []) [] [] 6
unfolding everything
operation_frees_its_cell_run = refl

abbrev script_operation_has_locals_of_its_own_run : Script
script_operation_has_locals_of_its_own_run = script [] ((procedure 10 [] (body ((OfPointer None) ∷ OfNumber ∷ []) ((on 13
    (Statement-F.SetNumber 1 (Constant (pos 5)))) ∷ (on 14 (Statement-F.Alloc (Held (H.Local 0)) (Constant (pos 16)) GivesNull)) ∷ (on 15
    (Statement-F.PushOperation (Held (H.Local 0)) 0)) ∷ (on 16 (Statement-F.PushOperation (Held (H.Local 0)) 0)) ∷ (on 17
    (Statement-F.PopDestroy (Constant (pos 2)))) ∷ (on 18 (Statement-F.PrintNumber (Variable 1))) ∷ (on 19 (Statement-F.Free (Held (H.Local
    0)))) ∷ []))) ∷ []) ((operation 1 (body (OfNumber ∷ (OfPointer None) ∷ []) ((on 4 (Statement-F.Add 1 (Constant (pos 1)))) ∷ (on 5
    (Statement-F.If (IsNull (Held (H.Local 2))) ((on 6 (Statement-F.PrintNumber (Variable 1))) ∷ []))) ∷ (on 8 (Statement-F.Set (Held
    (H.Local 0)) (Held (H.Local 2)))) ∷ []))) ∷ []) [] 0

operation_has_locals_of_its_own_run : run script_operation_has_locals_of_its_own_run R.Unlimited 10000 (shaped 4096 4096) ≡ result (Ended
    None []) ((line 1 144 0 Granted) ∷ (line 2 32 144 Granted) ∷ []) ((49 ∷ []) ∷ (49 ∷ []) ∷ (53 ∷ []) ∷ []) [] 17
unfolding everything
operation_has_locals_of_its_own_run = refl

abbrev script_operation_in_one_frame_too_many_run : Script
script_operation_in_one_frame_too_many_run = script [] ((procedure 1 (Par.OfNumber ∷ []) (body ((OfPointer None) ∷ []) ((on 3
    (Statement-F.IfElse (Less (Constant (pos 0)) (Variable 0)) ((on 4 (Statement-F.Add 0 (Constant (negsuc 0)))) ∷ (on 5 (Statement-F.Call 0
    ((Given (Variable 0)) ∷ []))) ∷ []) ((on 7 (Statement-F.PushOperation (Held (H.Local 1)) 0)) ∷ (on 8 (Statement-F.PopDestroy (Constant
    (pos 1)))) ∷ []))) ∷ []))) ∷ (procedure 14 [] (body [] ((on 15 (Statement-F.Call 0 ((Given (Constant (pos 126))) ∷ []))) ∷ []))) ∷ [])
    ((operation 11 (body [] ((on 12 (Statement-F.PrintText (Quoted 0))) ∷ []))) ∷ []) ((116 ∷ 111 ∷ 108 ∷ 100 ∷ []) ∷ []) 1

operation_in_one_frame_too_many_run : run script_operation_in_one_frame_too_many_run R.Unlimited 10000 (shaped 4096 4096) ≡ result (Panicked
    (P.Workbench 7)) ((line 1 144 0 Granted) ∷ []) [] [] 383
unfolding everything
operation_in_one_frame_too_many_run = refl

abbrev script_operation_in_the_last_frame_run : Script
script_operation_in_the_last_frame_run = script [] ((procedure 1 (Par.OfNumber ∷ []) (body ((OfPointer None) ∷ []) ((on 3
    (Statement-F.IfElse (Less (Constant (pos 0)) (Variable 0)) ((on 4 (Statement-F.Add 0 (Constant (negsuc 0)))) ∷ (on 5 (Statement-F.Call 0
    ((Given (Variable 0)) ∷ []))) ∷ []) ((on 7 (Statement-F.PushOperation (Held (H.Local 1)) 0)) ∷ (on 8 (Statement-F.PopDestroy (Constant
    (pos 1)))) ∷ []))) ∷ []))) ∷ (procedure 14 [] (body [] ((on 15 (Statement-F.Call 0 ((Given (Constant (pos 125))) ∷ []))) ∷ []))) ∷ [])
    ((operation 11 (body [] ((on 12 (Statement-F.PrintText (Quoted 0))) ∷ []))) ∷ []) ((116 ∷ 111 ∷ 108 ∷ 100 ∷ []) ∷ []) 1

operation_in_the_last_frame_run : run script_operation_in_the_last_frame_run R.Unlimited 10000 (shaped 4096 4096) ≡ result (Ended None [])
    ((line 1 144 0 Granted) ∷ []) ((116 ∷ 111 ∷ 108 ∷ 100 ∷ []) ∷ []) [] 381
unfolding everything
operation_in_the_last_frame_run = refl

abbrev script_operation_of_a_null_item_run : Script
script_operation_of_a_null_item_run = script [] ((procedure 6 [] (body ((OfPointer None) ∷ []) ((on 8 (Statement-F.PushOperation (Held
    (H.Local 0)) 0)) ∷ (on 9 (Statement-F.PopDestroy (Constant (pos 1)))) ∷ []))) ∷ []) ((operation 1 (body [] ((on 2 (Statement-F.If
    (IsNull (Held (H.Local 0))) ((on 3 (Statement-F.PrintText (Quoted 0))) ∷ []))) ∷ []))) ∷ []) ((110 ∷ 117 ∷ 108 ∷ 108 ∷ []) ∷ []) 0

operation_of_a_null_item_run : run script_operation_of_a_null_item_run R.Unlimited 10000 (shaped 4096 4096) ≡ result (Ended None []) ((line
    1 144 0 Granted) ∷ []) ((110 ∷ 117 ∷ 108 ∷ 108 ∷ []) ∷ []) [] 5
unfolding everything
operation_of_a_null_item_run = refl

abbrev script_operation_repeats_and_looks_at_the_heap_run : Script
script_operation_repeats_and_looks_at_the_heap_run = script [] ((procedure 9 [] (body ((OfPointer None) ∷ []) ((on 11 (Statement-F.Alloc
    (Held (H.Local 0)) (Constant (pos 16)) GivesNull)) ∷ (on 12 (Statement-F.PushOperation (Held (H.Local 0)) 0)) ∷ (on 13
    (Statement-F.PopDestroy (Constant (pos 1)))) ∷ []))) ∷ []) ((operation 1 (body [] ((on 2 (Statement-F.Repeat (Constant (pos 2)) ((on 3
    Statement-F.NoteHeap) ∷ []))) ∷ (on 5 Statement-F.NoteAvailable) ∷ (on 6 Statement-F.NoteCompress) ∷ (on 7 (Statement-F.Free (Held
    (H.Local 0)))) ∷ []))) ∷ []) [] 0

operation_repeats_and_looks_at_the_heap_run : run script_operation_repeats_and_looks_at_the_heap_run R.Unlimited 10000 (shaped 4096 4096) ≡
    result (Ended None []) ((line 1 144 0 Granted) ∷ (line 2 32 144 Granted) ∷ []) [] ((Heap 2 176 4096) ∷ (Heap 2 176 4096) ∷ (Available
    3920 3920) ∷ (Compress 0) ∷ []) 12
unfolding everything
operation_repeats_and_looks_at_the_heap_run = refl

abbrev script_operation_with_its_last_step_run : Script
script_operation_with_its_last_step_run = script [] ((procedure 6 [] (body ((OfPointer None) ∷ []) ((on 8 (Statement-F.PushOperation (Held
    (H.Local 0)) 0)) ∷ (on 9 (Statement-F.PopDestroy (Constant (pos 1)))) ∷ []))) ∷ []) ((operation 1 (body [] ((on 2 (Statement-F.If
    (IsNull (Held (H.Local 0))) ((on 3 (Statement-F.PrintText (Quoted 0))) ∷ []))) ∷ []))) ∷ []) ((110 ∷ 117 ∷ 108 ∷ 108 ∷ []) ∷ []) 0

operation_with_its_last_step_run : run script_operation_with_its_last_step_run R.Unlimited 5 (shaped 4096 4096) ≡ result (Ended None [])
    ((line 1 144 0 Granted) ∷ []) ((110 ∷ 117 ∷ 108 ∷ 108 ∷ []) ∷ []) [] 5
unfolding everything
operation_with_its_last_step_run = refl

abbrev script_panic_in_an_operation_run : Script
script_panic_in_an_operation_run = script [] ((procedure 4 [] (body ((OfPointer None) ∷ []) ((on 6 (Statement-F.Alloc (Held (H.Local 0))
    (Constant (pos 16)) GivesNull)) ∷ (on 7 (Statement-F.PushOperation (Held (H.Local 0)) 0)) ∷ (on 8 (Statement-F.Free (Held (H.Local 0))))
    ∷ (on 9 (Statement-F.PopDestroy (Constant (pos 1)))) ∷ []))) ∷ []) ((operation 1 (body [] ((on 2 (Statement-F.Free (Held (H.Local 0))))
    ∷ []))) ∷ []) [] 0

panic_in_an_operation_run : run script_panic_in_an_operation_run R.Unlimited 10000 (shaped 4096 4096) ≡ result (Panicked (P.User 42)) ((line
    1 144 0 Granted) ∷ (line 2 32 144 Granted) ∷ []) [] [] 6
unfolding everything
panic_in_an_operation_run = refl

abbrev script_popped_operation_does_not_run_run : Script
script_popped_operation_does_not_run_run = script [] ((procedure 1 [] (body ((OfPointer None) ∷ []) ((on 3 (Statement-F.Alloc (Held (H.Local
    0)) (Constant (pos 16)) GivesNull)) ∷ (on 4 (Statement-F.PushOperation (Held (H.Local 0)) 0)) ∷ (on 5 (Statement-F.PopCheck (Held
    (H.Local 0)))) ∷ (on 6 (Statement-F.PushOperation (Held (H.Local 0)) 0)) ∷ (on 7 (Statement-F.Pop (Constant (pos 1)))) ∷ (on 8
    (Statement-F.Free (Held (H.Local 0)))) ∷ []))) ∷ []) ((operation 10 (body [] ((on 11 (Statement-F.PrintText (Quoted 0))) ∷ []))) ∷ [])
    ((116 ∷ 111 ∷ 108 ∷ 100 ∷ []) ∷ []) 0

popped_operation_does_not_run_run : run script_popped_operation_does_not_run_run R.Unlimited 10000 (shaped 4096 4096) ≡ result (Ended None
    []) ((line 1 144 0 Granted) ∷ (line 2 32 144 Granted) ∷ []) [] [] 6
unfolding everything
popped_operation_does_not_run_run = refl
