-- One name that opens every definition that document 01 is rendered by: a proof by computation says `unfolding computing`.
use Prim.Native.Nat.{ℕ}
use Rattle.words.specs.Words.{part, put, all_are, none_is, all_words}
use Rattle.words.specs.Keys.{is_ones, key_lt, key_le, same_key, order, val}
use Rattle.table.specs.Tables.{count, row, key_at, block_in, first_where, fits, opened, closed, inserted, removed, replaced, laid}
use Rattle.table.specs.Splits.{one_more, low_text, high_text, low_bound, renamed, entered}
use Rattle.table.specs.Rows.{cat, encode, table}
use Rattle.drum.specs.Params.{D, I, FD, FI, master_size, file_size, start, every, good_params, sized, tag_of, master_shape, index_shape, detail_shape}
use Rattle.drum.specs.Blocks.{block_at, put_block, written, writes, link_place, free_text, link_in, is_free, text_of}
use Rattle.layout.specs.Create.{end_record, created}
use Rattle.layout.specs.Inspect.{key_held, above, ascends, end_ok, records_ok, rows_in, marked, through, detail_held, index_held, chain_held, rest_ok, master_ok, walked, layout_marks}
use Rattle.layout.specs.Tree.{last_in, bound_of, leaf_blocks, blocks_in, head_of, times, mark_of, marks_from, fresh_leaf, fresh_section, fresh_tree}
use Rattle.layout.specs.Holds.{All, index_entries, master_entries, master_text, ChainIn, ascending, LeavesOk, WellFormed}
use Rattle.rules.specs.State.{holding, positioned, at_rest, outcome, settle}
use Rattle.rules.specs.Checks.{sizes_ok, work_ok, is_open, key_ok}
use Rattle.rules.specs.Paths.{entry_of, path_at, path_under, path_by}
use Rattle.rules.specs.Lookup.{on_buffer, in_buffer, look_outside, look, flush_moves, bringing, reached, stopping, storing, landing}
use Rattle.rules.specs.Free.{none_left, granted, take_one, take_two, stored_number, with_free}
use Rattle.rules.specs.Open.{create, open_checks, open_layout, open_done, open_file}
use Rattle.rules.specs.Close.{close_checks, close_done, close, view}
use Rattle.rules.specs.Seek.{giving, seek_done, seek_steps, seek, updat_done, updat_steps, updat}
use Rattle.rules.specs.Adv.{next_in_buffer, next_path, adv_beyond, adv_at, adv_outside, adv_step, adv_giving, adv_reads, adv_done, adv_steps, adv}
use Rattle.rules.specs.Nsert.{room_deed, split_deed, both_deed, insert_at, insert_after, insert_deed}
use Rattle.rules.specs.NsertDone.{detail_low, detail_high, detail_entry, index_entered, index_low, index_high, index_entry, split_moves, both_split_moves, split_file, both_split_file, insert_done, nsert_steps, nsert}
use Rattle.rules.specs.Dlete.{empty_deed, empty_at, delete_after, delete_deed, entry_gone, empty_moves, empty_all, both_all, empty_file, both_file, emptying, delete_done, dlete_steps, dlete}
use Rattle.rules.specs.Xtend.{last_outside, last_way, last_of, last_room, not_above_before, just_before, not_behind, apart, new_apart, insert_before, look_deed, alone_deed, start_deed, section_deed, new_at, new_deed, extend_at, extend_deed}
use Rattle.rules.specs.XtendDone.{reading, old_text, end_text, ones_entry, bounded, extended, new_moves, section_moves, new_file, section_file, listed, extend_done, xtend_steps, xtend}
use Rattle.rules.specs.Requests.{lending, given, answer, left, tally}
use Rattle.rules.specs.Run.{begun, created_outcome, key_from, record_from, perform, shows, line_of, printed, ended}

unfoldable pub computing : ℕ
unfolding part put all_are none_is all_words is_ones key_lt key_le same_key order val count row key_at block_in first_where fits opened closed inserted removed replaced laid one_more low_text high_text low_bound renamed entered cat encode table D I FD FI master_size file_size start every good_params sized tag_of master_shape index_shape detail_shape block_at put_block written writes link_place free_text link_in is_free text_of end_record created key_held above ascends end_ok records_ok rows_in marked through detail_held index_held chain_held rest_ok master_ok walked layout_marks last_in bound_of leaf_blocks blocks_in head_of times mark_of marks_from fresh_leaf fresh_section fresh_tree All index_entries master_entries master_text ChainIn ascending LeavesOk WellFormed holding positioned at_rest outcome settle sizes_ok work_ok is_open key_ok entry_of path_at path_under path_by on_buffer in_buffer look_outside look flush_moves bringing reached stopping storing landing none_left granted take_one take_two stored_number with_free create open_checks open_layout open_done open_file close_checks close_done close view giving seek_done seek_steps seek updat_done updat_steps updat next_in_buffer next_path adv_beyond adv_at adv_outside adv_step adv_giving adv_reads adv_done adv_steps adv room_deed split_deed both_deed insert_at insert_after insert_deed detail_low detail_high detail_entry index_entered index_low index_high index_entry split_moves both_split_moves split_file both_split_file insert_done nsert_steps nsert empty_deed empty_at delete_after delete_deed entry_gone empty_moves empty_all both_all empty_file both_file emptying delete_done dlete_steps dlete last_outside last_way last_of last_room not_above_before just_before not_behind apart new_apart insert_before look_deed alone_deed start_deed section_deed new_at new_deed extend_at extend_deed reading old_text end_text ones_entry bounded extended new_moves section_moves new_file section_file listed extend_done xtend_steps xtend lending given answer left tally begun created_outcome key_from record_from perform shows line_of printed ended
computing = 0
