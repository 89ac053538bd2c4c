-- What the server's threads share is Send and Sync.
mod Sending
