-- Locals, frame by frame, and their buffers.
pub mod Buffers
pub mod EditedBuffers
pub mod Frames
